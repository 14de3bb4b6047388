-- What is chosen says whether a command is taken; if one is, its outcomes are the part of the table that is spread over.
use Prim.Native.Nat.{◌≤◌}
use native.Mathlib.Omega.{arith}
use Rattle.tables.proofs.Readiness.{ready_order, ready_end}
use Rattle.tables.proofs.SoundPlans.{plan_ready}
use Rattle.search.proofs.Expanding.{expand_none, expand_place, expand_some}
use Rattle.search.proofs.walk.expand.Goals as goal

pub returns-in_default : goal.returns-in_default
returns-in_default c = record {
  expanded = expand_none _ c.args.checked.now.sounds _ c.requires.s_in_bounds.0 _ _ c.take-taken.ensures.value c.in_default.is _ _ _ c.put_option.ensures c.requires.queued;
  retried = rw c.span-span.ensures at c.take-taken.ensures.retried;
}

pub overflow_add-g : goal.overflow_add-g
overflow_add-g c =
    omega (
      arith,
      (plan_ready c.args.checked.now).few_commands,
      expand_place _ c.args.checked.now.sounds _ c.requires.s_in_bounds.0 _ _ c.take-taken.ensures.value _ c.in-Some.is _ c.span-span.ensures,
    )

pub overflow_add-g-2 : goal.overflow_add-g-2
overflow_add-g-2 c =
    omega (
      arith,
      (plan_ready c.args.checked.now).few_commands,
      expand_place _ c.args.checked.now.sounds _ c.requires.s_in_bounds.0 _ _ c.take-taken.ensures.value _ c.in-Some.is _ c.span-span.ensures,
    )

pub spread-requires-clause-from_le_end : goal.spread-requires-clause-from_le_end
spread-requires-clause-from_le_end c =
    let p = c.args.checked.now in
    let inside = expand_place _ p.sounds _ c.requires.s_in_bounds.0 _ _ c.take-taken.ensures.value _ c.in-Some.is _ c.span-span.ensures in
    let r = plan_ready p in
    let until : c.first_outcome-end.result ≤ p.plan.size.t = rw c.first_outcome-end.ensures (ready_end r _ (omega (arith, inside))) in (
      rw (c.first_outcome-from.ensures, c.first_outcome-end.ensures) (ready_order r _ _ (omega arith) (omega (arith, inside))),
      omega (arith, until, r.states.long),
      λ j h. r.states.inside j (omega (arith, h, until)),
    )

pub spread-requires-clause-n_le_max_states : goal.spread-requires-clause-n_le_max_states
spread-requires-clause-n_le_max_states c = (
  (plan_ready c.args.checked.now).few,
  c.requires.n_in_bounds.1,
  c.requires.n_in_bounds.2,
  c.requires.s_in_bounds.2,
  c.requires.s_in_bounds.3,
)

pub returns : goal.returns
returns c = record {
  expanded = expand_some _ c.args.checked.now.sounds _ c.requires.s_in_bounds.0 _ _ c.take-taken.ensures.value _ c.in-Some.is _ c.span-span.ensures _ _
      c.first_outcome-from.ensures c.first_outcome-end.ensures _ _ c.put_option.ensures c.spread.ensures;
  retried = rw c.span-span.ensures at c.take-taken.ensures.retried;
}
