-- Without entries there is nothing to test; else the last is looked at, and then whether all rise.
use native.Mathlib.Omega.{arith}
use Rattle.tables.proofs.ListTest.{rises_none, rises_beyond, rises_within}
use Rattle.tables.proofs.rising.rises_below.Goals as goal

pub returns-then-to-from : goal.returns-then-to-from
returns-then-to-from c = rises_none _ _ _ _ (omega (arith, c.if-to-from.true))

pub returns-then-n-at : goal.returns-then-n-at
returns-then-n-at c = rises_beyond _ _ _ _ c.if-to-from.false c.at.ensures c.if-n-at.true

pub returns : goal.returns
returns c =
    rises_within _ _ _ _ c.if-to-from.false c.at.ensures c.if-n-at.false c.rises.ensures
