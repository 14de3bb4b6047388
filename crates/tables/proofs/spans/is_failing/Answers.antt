-- An ordinary state counts as failing where no command lies between its span's ends, any other one by its kind alone.
use mathlib.Core.Path.{◌≡◌}
use mathlib.Core.Logic.{⊎_elim}
use lib.Dec.{eqb, leb}
use borrow.Author.Tests.{ne_eqb}
use Rattle.laws.proofs.Tests.{true_or_false}
use Rattle.laws.proofs.TestFacts.{leb_gap}
use Rattle.tables.specs.declared.spans.Span.{Span}
use Rattle.tables.specs.Spans.{failing_span}
use Rattle.tables.proofs.spans.is_failing.Goals as goal

module _ (q : Span) where
  by_commands : q.kind ≡ 0 → leb q.end q.first ≡ failing_span q
  unfolding failing_span
  by_commands e = rw e (leb_gap q.first q.end)

  by_kind : (q.kind ≡ 0 → ⊥) → eqb q.kind 1 ≡ failing_span q
  unfolding failing_span
  by_kind h = rw (ne_eqb q.kind 0 h) (⊎_elim (λ e. rw e) (λ e. rw e) (true_or_false (eqb q.kind 1)))

pub returns-then-span-eq0 : goal.returns-then-span-eq0
returns-then-span-eq0 c = by_commands _ c.if-span-eq0.true

pub returns : goal.returns
returns c = by_kind _ c.if-span-eq0.false
