-- Where the list begins and ends decides the first two parts of the test; the other two are of its entries.
use mathlib.Core.Path.{sym, ◌∙◌}
use mathlib.Core.Bool.{and-false}
use borrow.Author.Tests.{lt-leb, le-leb}
use Rattle.tables.specs.ListTables.{table_of}
use Rattle.tables.proofs.ListTest.{list_test, list_rises}
use Rattle.tables.proofs.checks.list_sound.Goals as goal

pub returns-then-not-at_least : goal.returns-then-not-at_least
returns-then-not-at_least c =
    let a = c.args in
    rw (list_test a.least a.n (table_of a.lists.now) _ _ _
    c.start-from.ensures c.start-to.ensures)
    (simp (sym c.at_least.ensures ∙ c.if-not-at_least.true))

pub returns-then-lists-to : goal.returns-then-lists-to
returns-then-lists-to c =
    let a = c.args in
    rw (list_test a.least a.n (table_of a.lists.now) _ _ _
    c.start-from.ensures c.start-to.ensures)
    (simp (lt-leb _ _ c.if-lists-to.true, and-false))

pub returns : goal.returns
returns c =
    let a = c.args in
    list_rises a.least a.n (table_of a.lists.now) _ _ _
    c.start-from.ensures c.start-to.ensures
    (sym c.at_least.ensures ∙ c.if-not-at_least.false) (le-leb _ _ c.if-lists-to.false) c.rises_below.ensures
