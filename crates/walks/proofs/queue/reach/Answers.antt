-- A flag other than 1 leaves all as it was; at 1 there is room in the queue, since x is a state that the queue has not, and both stores
-- are made.
use native.Mathlib.Omega.{arith}
use Rattle.walks.proofs.Reaching.{reach_old, reach_room, reach_new}
use Rattle.walks.proofs.queue.reach.Goals as goal

pub returns-then-at-ne-UNREACHED : goal.returns-then-at-ne-UNREACHED
returns-then-at-ne-UNREACHED c =
    reach_old c.requires.queued _ c.requires.x_lt_n.0 c.requires.x_lt_n.2 c.requires.x_lt_n.3 _ c.requires.x_lt_n.4 _ c.at.ensures c.if-at-ne-UNREACHED.true

pub put-requires-2 : goal.put-requires-2
put-requires-2 c =
    omega (
      arith,
      c.requires.x_lt_n,
      reach_room c.requires.queued _ c.requires.x_lt_n.0 c.requires.x_lt_n.2 c.requires.x_lt_n.3 _ c.requires.x_lt_n.4 _ c.at.ensures
          (omega arith),
    )

pub overflow_add-result : goal.overflow_add-result
overflow_add-result c =
    omega (
      arith,
      c.requires.x_lt_n,
      reach_room c.requires.queued _ c.requires.x_lt_n.0 c.requires.x_lt_n.2 c.requires.x_lt_n.3 _ c.requires.x_lt_n.4 _ c.at.ensures
          (omega arith),
    )

pub returns : goal.returns
returns c =
    reach_new c.requires.queued _ c.requires.x_lt_n.0 c.requires.x_lt_n.2 c.requires.x_lt_n.3 _ c.requires.x_lt_n.4 _ c.at.ensures (omega arith) _ _
    c.put.ensures c.put-2.ensures
