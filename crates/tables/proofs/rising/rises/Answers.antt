-- Each pair of neighbours before place i rises, so the first that does not is the answer for all.
use mathlib.Core.Path.{◌∙◌}
use borrow.Author.Tests.{lt-ltb, le-ltb}
use Rattle.laws.proofs.Loops.{every_none, every_next, every_stop, every_done}
use Rattle.tables.proofs.ListTest.{rises_test}
use Rattle.tables.proofs.rising.rises.Goals as goal

pub loop-i-init : goal.loop-i-init
loop-i-init c = every_none _

pub returns-then-at : goal.returns-then-at
returns-then-at c =
    every_stop _ c.loop-i-test.true
    (rises_test _ _ _ _ c.at-in-loop-i.ensures c.at.ensures ∙ le-ltb _ _ c.if-at.true)

pub loop-i-preserved : goal.loop-i-preserved
loop-i-preserved c =
    every_next _ _ c.loop-i.invariant
    (rises_test _ _ _ _ c.at-in-loop-i.ensures c.at.ensures ∙ lt-ltb _ _ c.if-at.false)

pub returns : goal.returns
returns c = every_done _ c.loop-i.invariant c.loop-i-test.false
