-- Every command from the first on has an outcome in the set when the loop comes to c, so the first that has none is the answer.
use Rattle.laws.specs.First.{FirstNot}
use Rattle.tables.specs.Listed.{lists_of}
use Rattle.choice.specs.Within.{members, command_hits}
use Rattle.choice.proofs.choosing.first_clear.Given as goal

abbrev pub invariant-loop-c : goal.invariant-loop-c
invariant-loop-c l = FirstNot (command_hits (lists_of l.lists) (members l.set)) l.from l.c l.c
