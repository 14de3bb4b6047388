-- The loop holds that the walk under way has gone on from the first h places of the queue, and what is the lowest place of a marked state.
use Prim.Native.Nat.{◌<◌}
use native.Mathlib.Omega.{arith}
use Rattle.tables.proofs.SoundPlans.{plan_ready}
use Rattle.walks.proofs.Room.{queued_few}
use Rattle.search.proofs.Walking.{walking_next, walking_done}
use Rattle.search.proofs.walk.walk.Goals as goal

pub at-s-requires : goal.at-s-requires
at-s-requires c = omega (arith, c.requires.n_in_bounds, c.loop-h.invariant.same_queue, queued_few c.loop-h.invariant.queued)

pub overflow_add-h : goal.overflow_add-h
overflow_add-h c = omega (arith, (plan_ready c.args.checked.now).few, queued_few c.loop-h.invariant.queued)

pub expand-q-requires : goal.expand-q-requires
expand-q-requires c =
    let w = c.loop-h.invariant in
    let in_plan : c.at-s.result < c.args.checked.now.plan.size.n = rw c.at-s.ensures (w.queued.states _ c.loop-h-test.true) in
    record {
      s_in_bounds = (
        in_plan,
        omega (arith, in_plan, w.tried.long),
        omega arith,
        omega (arith, (plan_ready c.args.checked.now).few, queued_few w.queued),
      );
      n_in_bounds = (
        omega (arith, c.requires.n_in_bounds, w.commands.same),
        omega (arith, c.requires.n_in_bounds, w.flags.same),
        omega (arith, c.requires.n_in_bounds, w.same_queue),
      );
      queued = w.queued;
      all_hit = w.tried.hit _ in_plan;
    }

pub loop-h-smaller : goal.loop-h-smaller
loop-h-smaller c = omega (arith, queued_few c.loop-h.invariant.queued)

pub loop-h-preserved : goal.loop-h-preserved
loop-h-preserved c =
    walking_next _ c.args.checked.now.sounds c.loop-h.invariant c.loop-h-test.true _ c.at-s.ensures
    (omega (arith, c.requires.n_in_bounds, c.loop-h.invariant.commands.same)) c.expand-q.ensures.expanded _
    c.lower-low.ensures c.expand-q.ensures.retried (omega (arith, c.expand-q.auto))

pub returns : goal.returns
returns c = record {
  past = c.loop-h.invariant.commands;
  past_2 = c.loop-h.invariant.flags;
  queued_2 = c.loop-h.invariant.queued;
  tried_2 = c.loop-h.invariant.tried;
  by_index = walking_done _ c.args.checked.now.sounds c.loop-h.invariant c.loop-h-test.false;
}
