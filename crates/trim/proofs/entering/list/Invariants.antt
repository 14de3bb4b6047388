-- The states below s that are reached stand in the first places, when the loop comes to s.
use Rattle.walks.specs.Flags.{walked_in}
use Rattle.laws.proofs.Gathers.{Gathers}
use Rattle.trim.proofs.entering.list.Given as goal

abbrev pub invariant-loop-s : goal.invariant-loop-s
invariant-loop-s l = Gathers (walked_in l.flags) l.n l.initial.kept l.i l.s l.kept
