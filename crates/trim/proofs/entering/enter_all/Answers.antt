-- The loop holds that the walk has gone on from the first h places of the queue.
use Prim.Native.Nat.{◌<◌}
use native.Mathlib.Omega.{arith}
use Rattle.model.specs.Held.{tree_of, state_of}
use Rattle.model.proofs.SoundFacts.{sound_facts}
use Rattle.model.proofs.HeldPlan.{tree_count}
use Rattle.model.proofs.GoodTables.{sound_good}
use Rattle.tables.specs.Meaning.{lent}
use Rattle.tables.proofs.SoundPlans.{plan_ready}
use Rattle.walks.proofs.Room.{queued_few}
use Rattle.walks.proofs.WholeWalks.{fresh_queued, whole_start, whole_next}
use Rattle.trim.proofs.Stretching.{InStretch, state_stretch}
use Rattle.trim.proofs.EnteredStates.{outcome_inside, walked_entered}
use Rattle.trim.proofs.entering.enter_all.Goals.{After-stretch_at-stretch}
use Rattle.trim.proofs.entering.enter_all.Goals as goal

in_plan : (c : After-stretch_at-stretch) → c.at.result < c.args.checked.now.plan.size.n
in_plan c = omega (arith, c.at.ensures, c.loop-h.invariant.queued.states _ c.loop-h-test.true)

stretch_here : (c : After-stretch_at-stretch)
    → InStretch c.args.checked.now.plan (state_of (tree_of (lent c.args.checked.now.plan)) c.at.result).commands c.stretch_at-stretch.result
stretch_here c = state_stretch c.args.checked.now _ (in_plan c) c.stretch_at-stretch.ensures

pub reach-q-requires : goal.reach-q-requires
reach-q-requires c =
    let size = ((sound_facts _).0 c.args.checked.now.sounds).size in
    record {
      queued = fresh_queued c.args.queue.now c.requires.2;
      x_lt_n = (size.starts, size.few, c.requires.0, c.requires.1, omega arith, omega arith);
    }

pub loop-h-init : goal.loop-h-init
loop-h-init c = whole_start ((sound_facts _).0 c.args.checked.now.sounds).size.starts c.requires.2 c.reach-q.ensures

pub at-requires : goal.at-requires
at-requires c =
    omega (
      arith,
      c.requires.1,
      c.loop-h.invariant.same_queue,
      c.reach-q.ensures.same_queue,
      queued_few c.loop-h.invariant.queued,
    )

pub spread-q-requires-clause-from_le_end : goal.spread-q-requires-clause-from_le_end
spread-q-requires-clause-from_le_end c =
    let here = stretch_here (goal.at.spread-q-requires-clause-from_le_end c).After-stretch_at-stretch in
    let states = (plan_ready c.args.checked.now).states in
    (here.order, omega (arith, here.within, states.long), λ j h. states.inside j (omega (arith, h, here.within)))

pub spread-q-requires-clause-n_le_max_states : goal.spread-q-requires-clause-n_le_max_states
spread-q-requires-clause-n_le_max_states c = (
  (plan_ready c.args.checked.now).few,
  omega (arith, c.requires.0, c.loop-h.auto, c.reach-q.auto),
  omega (arith, c.requires.1, c.loop-h.auto, c.reach-q.auto),
  omega arith,
  omega arith,
)

pub loop-h-smaller : goal.loop-h-smaller
loop-h-smaller c = omega (arith, queued_few c.loop-h.invariant.queued)

pub loop-h-preserved : goal.loop-h-preserved
loop-h-preserved c =
    let T = lent c.args.checked.now.plan in
    let d = (goal.at.loop-h-preserved c).After-stretch_at-stretch in
    whole_next c.loop-h.invariant c.loop-h-test.true c.at.ensures
    (λ x m. rw (tree_count T) at (outcome_inside (tree_of T) (sound_good T c.args.checked.now.sounds) _ x (rw (tree_count T) (in_plan d)) m))
    (stretch_here d).outs c.spread-q.ensures

pub returns : goal.returns
returns c = walked_entered _ c.args.checked.now.sounds c.loop-h.invariant c.loop-h-test.false
