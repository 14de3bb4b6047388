-- What is read of a state at once, and the test of its row by that.
use mathlib.Core.Path.{◌≡◌, sym, ◌∙◌, ap}
use mathlib.Core.Bool.{Bool}
use mathlib.Core.List.{List}
use Prim.Native.Nat.{ℕ, ◌+◌, ◌<◌, ◌≤◌}
use native.Mathlib.Numerals.{add-one}
use borrow.Author.Tests.{lt-ltb, le-ltb}
use lib.ListN.{get_or, get_or-map}
use Rattle.model.specs.Tables.{Row as ModelRow, Tables}
use Rattle.model.specs.Places.{row_at, first_command, command_count}
use Rattle.model.specs.SoundTest.{row_sound}
use Rattle.model.specs.Plan.{failing}
use Rattle.model.specs.Held.{plan_in}
use Rattle.model.proofs.HeldPlan.{kind_held, commands_held}
use Rattle.tables.specs.declared.Size.{Size}
use Rattle.tables.specs.declared.Row.{Row}
use Rattle.tables.specs.declared.spans.Span.{Span}
use Rattle.tables.specs.Meaning.{row_of, held}
use Rattle.tables.specs.Spans.{no_row, span_of, span_at, failing_span, span_sound}

module _ (z : Size) (R : List Row) (F O : List ℕ) where
  pub row_held : (s : ℕ) → row_at (held z R F O) s ≡ row_of (get_or R s no_row)
  unfolding row_at
  row_held s = get_or-map row_of R s no_row

  first_below : (s : ℕ) → s < z.n → first_command (held z R F O) s ≡ (get_or R s no_row).first
  unfolding first_command
  first_below s h = rw (lt-ltb _ _ h) (ap (λ (w : ModelRow). w.first) (row_held s))

  span_to : (s end : ℕ) (r : Row) → s < z.n → r ≡ get_or R s no_row → end ≡ first_command (held z R F O) (s + 1)
      → span_of r end ≡ span_at (held z R F O) s
  span_to s end r h row last = rw (last, row, first_below s h, row_held s)

  -- the last state's
  pub span_last : (s : ℕ) (q : Span) (r : Row) → s < z.n → z.n ≤ s + 1 → r ≡ get_or R s no_row → q ≡ span_of r z.m → q
      ≡ span_at (held z R F O) s
  unfolding first_command
  span_last s q r h over row e = e ∙ span_to s z.m r h row (rw (le-ltb _ _ over))

  -- one that another follows
  pub span_inner : (s end : ℕ) (q : Span) (r next : Row) → s < z.n → s + 1 < z.n → r ≡ get_or R s no_row → next ≡ get_or R (s + 1) no_row
      → end ≡ next.first → q ≡ span_of r end → q ≡ span_at (held z R F O) s
  span_inner s end q r next h more row after last e =
      e ∙ span_to s end r h row (last ∙ ap (λ (w : Row). w.first) after ∙ sym (first_below (s + 1) more))

row_test : (T : Tables) (s : ℕ) → span_sound (span_at T s) T.size.m ≡ row_sound T s
unfolding span_sound row_sound command_count
row_test T s = rw (add-one s)

-- of a call on what was read
pub row_tested : (T : Tables) (s : ℕ) (q : Span) (t : Bool) → q ≡ span_at T s → t ≡ span_sound q T.size.m → t ≡ row_sound T s
row_tested T s q t p e = e ∙ ap (λ x. span_sound x T.size.m) p ∙ row_test T s

-- a state counts as failing by what was read of it where it does in the plan
pub span_failing : (T : Tables) (s : ℕ) → s < T.size.n → failing_span (span_at T s) ≡ failing (plan_in T) s
unfolding failing_span failing command_count
span_failing T s l = rw (kind_held T s l, commands_held T s l, add-one s)
