-- By last entries the test is two parts in a row: the first is read off, and where it holds the second is the answer.
use borrow.Author.Tests.{eq-eqb, ne_eqb}
use mathlib.Core.Path.{sym, ◌∙◌}
use Rattle.tables.proofs.Lasts.{lists_by_last}
use Rattle.tables.proofs.checks.lists_sound.Goals as goal

pub returns-then-start-ne0 : goal.returns-then-start-ne0
returns-then-start-ne0 c = rw (lists_by_last _ _ _) (simp (ne_eqb _ _ (λ e. c.if-start-ne0.true (c.start.ensures ∙ e))))

pub returns : goal.returns
returns c =
    rw (lists_by_last _ _ _)
    (rw (eq-eqb _ _ (sym c.start.ensures ∙ c.if-start-ne0.false)) c.each_list_sound.ensures)
