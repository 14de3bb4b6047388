-- The loop holds that the walk has gone on from the first h places of the queue.
use Prim.Native.Nat.{◌-◌}
use Rattle.model.specs.Held.{tree_of}
use Rattle.tables.specs.Meaning.{lent}
use Rattle.walks.proofs.WholeWalks.{WholeWalk}
use Rattle.trim.proofs.EnteredStates.{outcomes_of}
use Rattle.trim.proofs.entering.enter_all.Given as goal

abbrev pub invariant-loop-h : goal.invariant-loop-h
invariant-loop-h l = WholeWalk l.checked.plan.size.n l.checked.plan.size.start (outcomes_of (tree_of (lent l.checked.plan))) l.initial.flags l.initial.queue l.h l.q l.flags l.queue

abbrev pub decreases-loop-h : goal.decreases-loop-h
decreases-loop-h l = l.checked.plan.size.n - l.h
