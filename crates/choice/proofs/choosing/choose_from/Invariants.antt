-- Every command tried from the first place on has an outcome in the set when the loop comes to a place, so the first that has none is it.
use Rattle.laws.specs.First.{FirstNot}
use Rattle.tables.specs.Listed.{lists_of}
use Rattle.choice.specs.Within.{members}
use Rattle.choice.specs.Order.{alone, hit_at}
use Rattle.choice.proofs.choosing.choose_from.Given as goal

abbrev pub invariant-loop-place : goal.invariant-loop-place
invariant-loop-place l = FirstNot (hit_at (alone (lists_of l.lists) l.span) (members l.set) 0) l.from l.place l.place
