-- When the loop comes to state s, the practice alone is kept at the states before it.
use Rattle.nets.specs.Nets.{PracticeKept}
use Rattle.nets.proofs.ranges.keep_practice.Given as goal

abbrev pub invariant-loop-s : goal.invariant-loop-s
invariant-loop-s l = PracticeKept l.s l.ranks l.initial.froms l.initial.tos l.initial.fails l.froms l.tos l.fails
