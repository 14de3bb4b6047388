-- All that was skipped is hit, so the first place that is clear from there on is the first of all, and its command is the choice.
use mathlib.Core.Path.{ap}
use native.Mathlib.Omega.{arith}
use Rattle.model.specs.Tables.{Lists, lists_in}
use Rattle.tables.specs.Meaning.{lent}
use Rattle.tables.proofs.SoundPlans.{plan_ready}
use Rattle.choice.specs.Order.{alone}
use Rattle.choice.proofs.Orders.{places_few}
use Rattle.choice.proofs.Choices.{all_alone, first_chosen}
use Rattle.choice.proofs.Taken.{span_inside}
use Rattle.search.proofs.Trying.{take_first, retried}
use Rattle.search.proofs.walk.take.Goals as goal

pub choose_from-place-requires : goal.choose_from-place-requires
choose_from-place-requires c =
    let r = c.requires in
    let i = span_inside _ c.args.checked.now.sounds _ r.seen.0 _ r.seen.1 in
    let o = c.outcome_lists.ensures in
    record {
      first_le_end = (i.0, rw (ap (λ (L : Lists). L.count) o.lists) i.1, rw o.states r.n_in_bounds.0);
      from_bound = rw (c.at-from.ensures, o.lists) (all_alone _ _ _ r.seen.0 r.seen.1 _ r.all_hit).part;
    }

pub put-requires : goal.put-requires
put-requires c =
    let p = c.args.checked.now in
    let v = rw c.outcome_lists.ensures.lists at c.choose_from-place.ensures in
    omega (
      arith,
      c.requires.n_in_bounds,
      (plan_ready p).few_commands,
      span_inside _ p.sounds _ c.requires.seen.0 _ c.requires.seen.1,
      places_few (alone (lists_in (lent p.plan)) c.args.span) 0,
      v.until,
    )

pub tried_at-requires : goal.tried_at-requires
tried_at-requires c =
    let p = c.args.checked.now in
    omega (arith, (plan_ready p).few_commands, span_inside _ p.sounds _ c.requires.seen.0 _ c.requires.seen.1)

pub returns : goal.returns
returns c =
    let r = c.requires in
    let first = take_first c.args.scratch.now (all_alone _ _ _ r.seen.0 r.seen.1 _ r.all_hit) c.at-from.ensures
    (rw c.outcome_lists.ensures.lists at c.choose_from-place.ensures) in
    record {
      value = first_chosen _ _ _ r.seen.0 r.seen.1 _ c.args.checked.now.sounds first (c.tried_at.ensures _);
      retried = retried c.args.tried.now _ r.n_in_bounds.1 first c.put.ensures;
    }
