-- A practice that is given is one of the state's commands, so its place is in range.
use Rattle.nets.proofs.Initializing.{place_none, place_given}
use Rattle.nets.proofs.ranges.practice_place.Goals as goal

pub returns-then-has_practice : goal.returns-then-has_practice
returns-then-has_practice c = place_given _ _ c.has_practice.ensures c.if-has_practice.true

pub returns-else-has_practice : goal.returns-else-has_practice
returns-else-has_practice c = place_none _ _ c.has_practice.ensures c.if-has_practice.false
