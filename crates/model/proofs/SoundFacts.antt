-- The test of soundness, as facts about the places of the tables.
use mathlib.Core.Path.{◌≡◌}
use mathlib.Core.Bool.{true}
use mathlib.Core.Logic.{◌↔◌}
use Prim.Native.Nat.{ℕ, suc, ◌<◌, ◌≤◌}
use Rattle.laws.proofs.TestFacts.{every_iff, and_iff, leb_iff, eqb_iff}
use Rattle.model.specs.File.{max_states, max_commands, max_outcomes, not_idle}
use Rattle.model.specs.Tables.{Size, Tables, lists_in}
use Rattle.model.specs.Places.{row_at, first_command, field_at}
use Rattle.model.specs.Sound.{Long}
use Rattle.model.specs.SoundTest.{size_sound, tables_long, row_sound, sound}
use Rattle.model.proofs.ListTable.{ListsFit, lists_iff, lists_ordered}
use Rattle.model.proofs.Ordered.{Ordered}

pub record SizeFits (z : Size) : Type 0 where
  pub some : 1 ≤ z.n
  pub few : z.n ≤ max_states
  pub few_commands : z.m ≤ max_commands
  pub few_outcomes : z.t ≤ max_outcomes
  pub starts : z.start < z.n

pub record RowFits (T : Tables) (s : ℕ) : Type 0 where
  pub rises : first_command T s ≤ first_command T (suc s)
  pub below : first_command T (suc s) ≤ T.size.m
  pub kinds : (row_at T s).kind ≤ 2
  pub not_idle_lem : not_idle (field_at T s) ≡ true

pub record Fits (T : Tables) : Type 0 where
  pub size : SizeFits T.size
  pub long : Long T
  pub commands_start : first_command T 0 ≡ 0
  pub rows : (s : ℕ) → s < T.size.n → RowFits T s
  pub lists : ListsFit 1 T.size.n (lists_in T)

size_iff : (z : Size) → (size_sound z ≡ true) ↔ SizeFits z
unfolding size_sound
size_iff z = (
  λ e.
      let h = simp (and_iff, leb_iff) at e in
      record { some = h.0.0.0.0; few = h.0.0.0.1; few_commands = h.0.0.1; few_outcomes = h.0.1; starts = h.1 },
  λ f. simp (and_iff, leb_iff) ((((f.some, f.few), f.few_commands), f.few_outcomes), f.starts),
)

long_iff : (T : Tables) → (tables_long T ≡ true) ↔ Long T
unfolding tables_long
long_iff T = (
  λ e.
      let h = simp (and_iff, leb_iff) at e in
      record { rows = h.0.0; lists = record { firsts = h.0.1; entries = h.1 } },
  λ f. simp (and_iff, leb_iff) ((f.rows, f.lists.firsts), f.lists.entries),
)

row_iff : (T : Tables) (s : ℕ) → (row_sound T s ≡ true) ↔ RowFits T s
unfolding row_sound
row_iff T s = (
  λ e.
      let h = simp (and_iff, leb_iff) at e in
      record { rises = h.0.0.0; below = h.0.0.1; kinds = h.0.1; not_idle_lem = simp and_iff h.1 },
  λ f. simp (and_iff, leb_iff) (((f.rises, f.below), f.kinds), simp and_iff at f.not_idle_lem),
)

ruleset tests = (and_iff, eqb_iff, every_iff, size_iff, long_iff, row_iff, lists_iff)

pub sound_facts : (T : Tables) → (sound T ≡ true) ↔ Fits T
unfolding sound
sound_facts T = (
  λ e.
      let h = simp tests at e in
      record {
        size = h.0.0.0.0;
        long = h.0.0.0.1;
        commands_start = h.0.0.1;
        rows = h.0.1;
        lists = h.1;
      },
  λ f. simp tests ((((f.size, f.long), f.commands_start), f.rows), f.lists),
)

pub fits_ordered : {T : Tables} → Fits T → Ordered T
fits_ordered f = record {
  rows = f.long.rows;
  commands = record { start = f.commands_start; step = λ s h. (f.rows s h).rises; below = λ s h. (f.rows s h).below };
  lists = lists_ordered f.long.lists f.lists;
}
