-- A state of another rank leaves the queue as it is, and one of rank 0 stands at its end.
use Rattle.propagate.proofs.Starts.{seeds_end, seeds_skip, seeds_add}
use native.Mathlib.Omega.{arith}
use Rattle.propagate.proofs.layers.enqueue_seed.Goals as goal

pub returns-then-at-ne0 : goal.returns-then-at-ne0
returns-then-at-ne0 c =
    seeds_skip _ _ _ _ c.requires.seeds_queued _ c.at.ensures c.if-at-ne0.true

pub put-requires : goal.put-requires
put-requires c =
    omega (arith, seeds_end _ _ _ _ c.requires.seeds_queued, c.requires.s_in_bounds)

pub overflow_add-result : goal.overflow_add-result
overflow_add-result c =
    omega (arith, seeds_end _ _ _ _ c.requires.seeds_queued, c.requires.s_in_bounds)

pub returns : goal.returns
returns c =
    seeds_add _ _ _ _ c.requires.seeds_queued _ c.at.ensures c.if-at-ne0.false c.requires.s_in_bounds.1 _
    c.put.ensures
