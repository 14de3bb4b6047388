-- The loop holds that a walk is under way with the set known after so many rounds, none of them the last; how many come before the last one
-- bounds it.
use Prim.Native.Nat.{suc, ◌-◌}
use Rattle.model.specs.Held.{plan_in}
use Rattle.model.specs.Search.{before}
use Rattle.tables.specs.Meaning.{lent}
use Rattle.search.proofs.AfterRounds.{AfterRounds}
use Rattle.search.proofs.rounds.walk_rounds.Given as goal

abbrev pub invariant-loop-low : goal.invariant-loop-low
invariant-loop-low l = AfterRounds (plan_in (lent l.checked.plan)) l.checked.plan.size.n l.start l.fn.commands l.fn.scratch l.rounds l.h l.q l.commands l.scratch l.queue l.tried

abbrev pub decreases-loop-low : goal.decreases-loop-low
decreases-loop-low l = suc (before (plan_in (lent l.checked.plan)) l.start) - l.rounds
