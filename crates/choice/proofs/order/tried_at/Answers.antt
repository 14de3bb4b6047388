-- Past the places there is none; without a practice the place is the command's number, and with one all but the first are one place later.
use native.Mathlib.Omega.{arith}
use Rattle.choice.specs.Order.{alone}
use Rattle.choice.proofs.Orders.{tried_past, tried_all, tried_first, tried_then}
use Rattle.choice.proofs.order.tried_at.Goals as goal

pub returns-then-tries-i : goal.returns-then-tries-i
returns-then-tries-i c =
    λ L. tried_past (alone L c.args.span) 0 _ (omega (arith, c.tries.ensures L, c.if-tries-i.true))

pub returns-then-span : goal.returns-then-span
returns-then-span c =
    λ L. tried_all (alone L c.args.span) 0 c.if-span.true _ (omega (arith, c.tries.ensures L, c.if-tries-i.false))

pub returns-then-i-eq0 : goal.returns-then-i-eq0
returns-then-i-eq0 c =
    λ L. tried_first (alone L c.args.span) 0 c.if-span.false _ c.if-i-eq0.true

pub returns : goal.returns
returns c =
    λ L. tried_then (alone L c.args.span) 0 c.if-span.false _ c.if-i-eq0.false
    (omega (arith, c.tries.ensures L, c.if-tries-i.false))
