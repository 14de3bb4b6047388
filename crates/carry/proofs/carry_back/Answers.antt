-- What is refused is so before the first store; else FFFF goes to all places, and then each entry to its own.
use native.Mathlib.Omega.{arith}
use Rattle.std.proofs.lemmas.Result.{err_from_is_err_and}
use Rattle.model.specs.Refusal.{answer}
use Rattle.model.specs.Calls.{left}
use Rattle.carry.proofs.Placement.{room, may_place, gives, means}
use Rattle.carry.proofs.carry_back.Goals as goal

pub returns-in_err-admit-clause-call : goal.returns-in_err-admit-clause-call
unfolding answer left
returns-in_err-admit-clause-call c =
    let p = err_from_is_err_and c.from_residual.result c.from_residual.ensures.1 in
    rw (p.1, p.2, ← c.in_err-admit.ensures)

pub fill-requires : goal.fill-requires
fill-requires c = (room _ _ _ _ c.in_ok-admit.ensures, omega arith)

pub place_all-requires : goal.place_all-requires
place_all-requires c = may_place _ _ _ _ c.in_ok-admit.ensures c.fill.ensures.same

pub returns : goal.returns
returns c =
    let e = gives _ _ _ _ c.in_ok-admit.ensures c.fill.ensures c.place_all.ensures in
    record { call = e; carried = λ _. means _ _ _ _ _ e }
