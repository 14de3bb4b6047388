-- Each test is the definition's, and decides as it does; where both are passed, what is written is what the definition gives.
use mathlib.Core.Path.{◌≡◌, ap, ◌∙◌}
use native.Mathlib.Omega.{arith}
use Rattle.std.proofs.Common.{Ok}
use Rattle.std.proofs.lemmas.Result.{err_from_is_err_and}
use Rattle.tables.specs.declared.sound_plan.SoundPlan.{SoundPlan}
use Rattle.tables.specs.Meaning.{lent}
use Rattle.trim.proofs.KeptStates.{kept_count}
use Rattle.trim.proofs.Replying.{refuses_unsound, refuses_cramped, room, gives, means}
use Rattle.trim.proofs.trim.Goals.{After-keep-kept}
use Rattle.trim.proofs.trim.Goals as goal

-- the plan that the kept states are of is the one lent
same : (c : After-keep-kept) → c.keep-kept.result.checked.now.plan ≡ c.args.plan.now
same c = ap (λ (p : SoundPlan). p.plan) c.keep-kept.ensures ∙ c.in_ok-checked.ensures

pub returns-in_err-checked-clause-call : goal.returns-in_err-checked-clause-call
returns-in_err-checked-clause-call c =
    let p = err_from_is_err_and c.from_residual.result c.from_residual.ensures.1 in
    rw (p.1, p.2, c.in_err-checked.ensures.0) (refuses_unsound (lent c.args.plan.now) _ _ _ _ _ c.in_err-checked.ensures.1)

pub returns-then-not-room-clause-call : goal.returns-then-not-room-clause-call
returns-then-not-room-clause-call c =
    let p = c.keep-kept.result.checked.now in
    rw (← same (goal.at.returns-then-not-room-clause-call c).After-keep-kept)
    (refuses_cramped (lent p.plan) _ _ _ _ _ p.sounds c.count-size.ensures c.has_room-room.ensures c.if-not-room.true)

pub fill_trimmed-requires-clause-n_in_bounds : goal.fill_trimmed-requires-clause-n_in_bounds
fill_trimmed-requires-clause-n_in_bounds c =
    let a = c.args in
    let p = c.keep-kept.result.checked.now in
    let long = room (lent p.plan) a.rows2.now a.firsts2.now a.outcomes2.now a.olds.now a.scratch.now p.sounds c.count-size.ensures
    c.has_room-room.ensures c.if-not-room.false in
    (omega (arith, kept_count c.keep-kept.result, long.map), long.space)

pub returns : goal.returns
returns c =
    let a = c.args in
    let p = c.keep-kept.result.checked.now in
    let w = c.fill_trimmed in
    let e = rw (same (goal.at.returns c).After-keep-kept)
    at (gives (lent p.plan) a.rows2.now a.firsts2.now a.outcomes2.now a.olds.now a.scratch.now p.sounds c.count-size.ensures
    c.has_room-room.ensures c.if-not-room.false w.new.rows2 w.ensures.rows w.ensures.firsts w.ensures.outcomes w.ensures.olds
    w.ensures.scratch) in
    record { call = e; trimmed = means (lent a.plan.now) _ _ _ _ _ (Ok c.count-size.result) w.new.rows2 _ _ _ _ e }
