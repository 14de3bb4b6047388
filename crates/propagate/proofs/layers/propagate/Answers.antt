-- After each turn one layer more has its ranks, and its new states wait in the queue; when none waits, no further layer adds one.
use native.Mathlib.Omega.{arith}
use Rattle.propagate.proofs.Ends.{going_start, going_few, going_done}
use Rattle.propagate.proofs.Starts.{start_bound, start_at_layer}
use Rattle.propagate.proofs.Plans.{ranged_ready}
use Rattle.propagate.proofs.layers.propagate.Goals as goal

pub enqueue_seeds-hi-requires : goal.enqueue_seeds-hi-requires
enqueue_seeds-hi-requires c =
    let r = c.requires.n_in_bounds.0 in ((ranged_ready c.args.ranged.now).few, r.for_ranks, r.for_queue)

pub loop-lo-init : goal.loop-lo-init
loop-lo-init c =
    let R = ranged_ready c.args.ranged.now in
    let l = c.requires.n_in_bounds.0.for_ranks in
    going_start _ _ _ _ _ _ (start_bound _ R _ c.args.ranged.now.ranges _ _ _ l c.requires.n_in_bounds.1 _ c.enqueue_seeds-hi.ensures)
    (start_at_layer _ R _ c.args.ranged.now.ranges _ _ _ l c.requires.n_in_bounds.1 _ c.enqueue_seeds-hi.ensures)

pub add_layer-e-requires-clause-lo_le_hi : goal.add_layer-e-requires-clause-lo_le_hi
add_layer-e-requires-clause-lo_le_hi c =
    let v = c.loop-lo.invariant in (
      v.order,
      omega (arith, v.layers, going_few _ _ _ _ _ _ _ _ _ _ v, c.loop-lo-test.true, (ranged_ready c.args.ranged.now).few),
    )

pub loop-lo-smaller : goal.loop-lo-smaller
loop-lo-smaller c = omega (arith, going_few _ _ _ _ _ _ _ _ _ _ c.loop-lo.invariant, c.loop-lo-test.true)

pub returns : goal.returns
returns c =
    going_done _ _ _ _ _ _ _ _ _ _ c.loop-lo.invariant (ranged_ready c.args.ranged.now) c.args.ranged.now.ranges c.requires.n_in_bounds.0.for_ranks
    c.loop-lo.auto.ranks c.loop-lo-test.false
