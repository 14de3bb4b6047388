-- The loop holds that the walk under way has gone on from the first h places of the queue, and what is the lowest place of a marked state.
use Prim.Native.Nat.{◌-◌}
use Rattle.model.specs.Held.{plan_in}
use Rattle.tables.specs.Meaning.{lent}
use Rattle.search.proofs.Walking.{Walking}
use Rattle.search.proofs.walk.walk.Given as goal

abbrev pub invariant-loop-h : goal.invariant-loop-h
invariant-loop-h l = Walking (plan_in (lent l.checked.plan)) l.checked.plan.size.n l.from l.reached
    l.initial.commands l.initial.scratch l.initial.queue l.h l.q l.low l.commands l.scratch l.queue l.tried

abbrev pub decreases-loop-h : goal.decreases-loop-h
decreases-loop-h l = l.checked.plan.size.n - l.h
