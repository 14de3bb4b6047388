-- The loop holds that all places from q on go; it stops at the first from the end that stays, or at the start.
use Rattle.search.proofs.Cutting.{Cutting}
use Rattle.search.proofs.marks.kept.Given as goal

abbrev pub invariant-loop-q : goal.invariant-loop-q
invariant-loop-q l = Cutting l.low l.q l.reached l.scratch l.queue
