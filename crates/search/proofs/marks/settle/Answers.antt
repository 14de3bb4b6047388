-- The loop holds that the round is over at the places before i; a state stands in the queue once, so at place i it is still as it was.
use mathlib.Core.Path.{refl}
use native.Mathlib.Omega.{arith}
use Rattle.walks.proofs.Room.{queued_few}
use Rattle.search.proofs.Settling.{settled_next}
use Rattle.search.proofs.marks.settle.Goals as goal

pub at-requires : goal.at-requires
at-requires c = omega (arith, c.requires.n_in_bounds, queued_few c.requires.queued)

pub loop-i-preserved : goal.loop-i-preserved
loop-i-preserved c =
    settled_next _ c.requires.queued c.requires.n_in_bounds.0 c.requires.n_in_bounds.1 c.loop-i.invariant (omega arith) c.loop-i-test.true
    _ c.at.ensures _ refl c.settle_one.ensures.commands_after c.settle_one.ensures.scratch_after
