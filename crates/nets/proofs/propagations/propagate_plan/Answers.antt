-- What is read off a sound plan's rows is what both propagations ask; they find the plan's ranks, and where its practice fails.
use mathlib.Core.Path.{ap}
use Rattle.model.specs.Tables.{Lists}
use Rattle.tables.proofs.SoundPlans.{plan_ready}
use Rattle.nets.proofs.Settings.{sound_spans, initialized_parts, initialized_all, initialized_practice, initialized_seeds}
use Rattle.nets.proofs.Finds.{found}
use Rattle.nets.proofs.propagations.propagate_plan.Goals as goal

pub initialize-requires : goal.initialize-requires
initialize-requires c =
    let p = c.args.checked.now in record { spans = sound_spans p; n_in_bounds = (c.requires.0, (plan_ready p).few, c.requires.1, c.requires.2) }

pub propagate_both-requires : goal.propagate_both-requires
propagate_both-requires c =
    let p = c.args.checked.now in
    let few = (plan_ready p).few in
    let n = c.outcome_lists-lists.ensures.states in
    let m = ap (λ (L : Lists). L.count) c.outcome_lists-lists.ensures.lists in
    let seeds = initialized_seeds p (c.initialize.ensures _ _) c.requires.0 in record {
      parts = rw (n, m) (initialized_parts p (c.initialize.ensures _ _));
      own_ranges = rw (n, m) (initialized_all p (c.initialize.ensures _ _) few c.requires.1);
      own_ranges_2 = rw (n, m) (initialized_practice p (c.initialize.ensures _ _) c.requires.2 c.requires.1);
      n_in_bounds = rw n (seeds.0, c.requires.3, seeds.1);
    }

pub returns : goal.returns
returns c =
    let p = c.args.checked.now in
    let n = c.outcome_lists-lists.ensures.states in
    let l = c.outcome_lists-lists.ensures.lists in
    found p c.requires.0 c.requires.2 (c.initialize.ensures _ _)
    (rw (n, l) at c.propagate_both.ensures.ranked) (rw (n, l) at c.propagate_both.ensures.failed) (rw n at c.propagate_both.ensures.queued)
