-- When the walk comes to place p of the group, the commands before it have been looked at, and each look leads on towards the layer.
use Rattle.propagate.proofs.Plans.{lists_indexed}
use Rattle.propagate.proofs.Spreads.{spread_start, spread_next, spread_done, group_order, group_end, group_command}
use Rattle.propagate.proofs.layers.spread.Goals as goal

pub loop-p-init : goal.loop-p-init
loop-p-init c = spread_start _ _ _ _ _ _ _ c.args.ranged.now.ranges c.requires.queue_bound

pub user-c-requires : goal.user-c-requires
user-c-requires c =
    group_end _ _ _ _ (lists_indexed c.args.ranged.now.indexed) _ c.requires.o_lt_n.0 _ _ c.first_user-p.ensures c.first_user-p-end.ensures _ c.loop-p.auto.p c.loop-p-test.true

pub visit-e-requires-clause-c_in_bounds : goal.visit-e-requires-clause-c_in_bounds
visit-e-requires-clause-c_in_bounds c = (
  group_command _ _ _ _ (lists_indexed c.args.ranged.now.indexed) _ c.requires.o_lt_n.0 _ _ c.first_user-p.ensures c.first_user-p-end.ensures _ c.loop-p.auto.p c.loop-p-test.true _ c.user-c.ensures,
  c.requires.o_lt_n.1,
)

pub loop-p-preserved : goal.loop-p-preserved
loop-p-preserved c = spread_next _ _ _ _ _ _ _ _ _ _ _ c.user-c.ensures c.loop-p.invariant c.visit-e.ensures

pub returns : goal.returns
returns c =
    let l = group_order _ _ _ _ (lists_indexed c.args.ranged.now.indexed) _ c.requires.o_lt_n.0 _ _ c.first_user-p.ensures c.first_user-p-end.ensures in
    spread_done _ _ _ _ _ _ _ _ _ _ c.loop-p.invariant (c.loop-p.auto.p-end l) c.loop-p-test.false _ _ c.first_user-p.ensures
    c.first_user-p-end.ensures
