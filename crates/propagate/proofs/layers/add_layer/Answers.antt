-- When the walk comes to place h of the queue, the states that waited before it have been spread, and what they lose has its rank.
use native.Mathlib.Omega.{arith}
use Rattle.propagate.proofs.LayerSteps.{layer_at, layer_next, layer_done}
use Rattle.propagate.proofs.Plans.{lists_indexed, ranged_ready}
use Rattle.propagate.proofs.layers.add_layer.Goals as goal

pub at-o-requires : goal.at-o-requires
at-o-requires c =
    layer_at _ _ _ _ _ _ _ _ c.loop-h.invariant _ (omega (arith, c.loop-h.auto.queue, c.requires.room.for_queue)) c.loop-h-test.true

pub loop-h-preserved : goal.loop-h-preserved
loop-h-preserved c =
    layer_next _ _ _ _ _ _ _ _ c.loop-h.invariant _ _ (lists_indexed c.args.ranged.now.indexed) c.loop-h-test.true _ c.at-o.ensures _ c.spread-e.ensures

pub returns : goal.returns
returns c =
    layer_done _ _ _ _ _ _ _ _ c.loop-h.invariant (ranged_ready c.args.ranged.now) c.args.ranged.now.ranges c.requires.lo_le_hi.1 c.loop-h-test.false
