-- The loop holds that a walk is under way with the set known after so many rounds, none of them the last; how many come before the last one
-- bounds it.
use mathlib.Core.Path.{sym, ap, ◌∙◌}
use native.Mathlib.Omega.{arith}
use lib.ListN.{get_or-replicate}
use Rattle.model.specs.File.{max_states}
use Rattle.search.specs.Marks.{active_span}
use Rattle.tables.specs.Spans.{failing_span}
use Rattle.tables.proofs.SoundPlans.{plan_ready}
use Rattle.tables.proofs.SpanFacts.{span_failing}
use Rattle.walks.proofs.Room.{queued_few}
use Rattle.walks.proofs.Spreads.{queued_none}
use Rattle.search.proofs.ReadStates.{span_active}
use Rattle.search.proofs.RoundEnds.{some_marked}
use Rattle.search.proofs.AfterRounds.{first_low, rounds_start, rounds_none, due_before, due_few, rounds_safe, rounds_lost, rounds_next}
use Rattle.search.proofs.rounds.walk_rounds.Goals as goal

pub returns-then-not-has_commands : goal.returns-then-not-has_commands
returns-then-not-has_commands c =
    let p = c.args.checked.now in
    rounds_none _ p.sounds _ c.requires.0 c.fill.ensures c.start_known.ensures
    (sym (span_active _ _ c.requires.0) ∙ ap active_span (sym c.span-span.ensures) ∙ sym c.has_commands.ensures ∙ c.if-not-has_commands.true) _
    (c.is_failing.ensures ∙ ap failing_span c.span-span.ensures ∙ span_failing _ _ c.requires.0)

pub reach-q-requires : goal.reach-q-requires
reach-q-requires c =
    let p = c.args.checked.now in
    record {
      queued = queued_none _ (first_low _ p.sounds _ c.requires.0 c.fill.ensures c.start_known.ensures);
      x_lt_n = (
        c.requires.0,
        (plan_ready p).few,
        omega (arith, c.requires, c.start_known.auto),
        omega (arith, (plan_ready p).few),
        omega arith,
        omega arith,
      );
    }

pub loop-low-init : goal.loop-low-init
loop-low-init c =
    let p = c.args.checked.now in
    rounds_start _ p.sounds _ c.requires.0 c.fill.ensures c.start_known.ensures c.reach-q.ensures
    (sym (span_active _ _ c.requires.0) ∙ ap active_span (sym c.span-span.ensures) ∙ sym c.has_commands.ensures ∙ c.if-not-has_commands.false)
    (plan_ready p).few (λ x l. get_or-replicate max_states x 0 0 (omega (arith, (plan_ready p).few)))

pub overflow_add-rounds : goal.overflow_add-rounds
overflow_add-rounds c =
    let p = c.args.checked.now in
    omega (arith, (plan_ready p).few, due_few _ p.sounds c.requires.0 c.loop-low.invariant.due)

pub returns-in_default : goal.returns-in_default
returns-in_default c =
    let v = c.loop-low.invariant in
    let e = c.walk-walked.ensures in
    rounds_safe _ c.args.checked.now.sounds c.requires.0 v.due (e.by_index _ _ v.due.walks v.due.clear) v e.past e.past_2 c.in_default.is

pub returns-then-at-eq-NONE : goal.returns-then-at-eq-NONE
returns-then-at-eq-NONE c =
    let v = c.loop-low.invariant in
    let e = c.walk-walked.ensures in
    rounds_lost _ c.args.checked.now.sounds c.requires.0 v.due (e.by_index _ _ v.due.walks v.due.clear) v e.past e.past_2
    (sym c.at.ensures ∙ c.if-at-eq-NONE.true)

pub kept-q-requires-clause-reached_nonzero : goal.kept-q-requires-clause-reached_nonzero
kept-q-requires-clause-reached_nonzero c =
    let p = c.args.checked.now in
    let d = c.loop-low.invariant.due in
    let w = c.walk-walked.ensures.by_index _ _ d.walks d.clear in
    let few = (plan_ready p).few in
    let room = queued_few w.done.queued in (
      w.done.begun,
      omega (arith, few, room, c.if-at-eq-NONE.array_long),
      omega (arith, few, room, (some_marked _ p.sounds _ _ w _ c.in-Some.is).0),
    )

pub loop-low-smaller : goal.loop-low-smaller
loop-low-smaller c = omega (arith, due_before _ c.args.checked.now.sounds c.requires.0 c.loop-low.invariant.due)

pub loop-low-preserved : goal.loop-low-preserved
loop-low-preserved c =
    let v = c.loop-low.invariant in
    let e = c.walk-walked.ensures in
    rounds_next _ c.args.checked.now.sounds c.requires.0 v.due (e.by_index _ _ v.due.walks v.due.clear) v e.past e.past_2 _ c.in-Some.is
    (λ z. c.if-at-eq-NONE.false (c.at.ensures ∙ z)) c.kept-q.ensures c.settle.ensures e.tried_2
