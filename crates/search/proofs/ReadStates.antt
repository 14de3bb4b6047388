-- What was read of a state says what the state counts as.
use mathlib.Core.Path.{◌≡◌, refl}
use mathlib.Core.Bool.{not, cond}
use mathlib.Core.Option.{Option, none, some}
use Prim.Native.Nat.{ℕ, ◌<◌}
use native.Mathlib.Numerals.{add-one}
use native.Mathlib.Omega.{arith}
use lib.Dec.{eqb}
use borrow.Author.Tests.{ne_eqb}
use Rattle.laws.specs.Sets.{found}
use Rattle.laws.specs.Entry.{FFFF, entry}
use Rattle.laws.proofs.TestFacts.{ltb_gap}
use Rattle.model.specs.Plan.{ordinary, failing, active}
use Rattle.model.specs.Tables.{Tables}
use Rattle.model.specs.Places.{first_command, command_count}
use Rattle.model.specs.Held.{plan_in}
use Rattle.model.proofs.HeldPlan.{kind_held, commands_held}
use Rattle.tables.specs.Spans.{span_at}
use Rattle.tables.proofs.SpanFacts.{span_failing}
use Rattle.search.specs.Marks.{active_span, start_flag}

module _ (T : Tables) (s : ℕ) (l : s < T.size.n) where
  pub span_active : active_span (span_at T s) ≡ active (plan_in T) s
  unfolding active_span active ordinary command_count
  span_active = rw (kind_held T s l, commands_held T s l, add-one s, ltb_gap (first_command T s) _)

  pub start_flag_is : start_flag (span_at T s) ≡ cond (failing (plan_in T) s) 0 1
  unfolding start_flag
  start_flag_is = rw (span_failing T s l)

-- an entry FFFF is no command's
pub entry_none : (o : Option ℕ) → ((c : ℕ) → o ≡ some c → c < FFFF) → eqb (entry o) FFFF ≡ not (found o)
unfolding entry found
entry_none none h = refl
entry_none (some c) h = ne_eqb c FFFF (λ z. omega (arith, h c refl))
