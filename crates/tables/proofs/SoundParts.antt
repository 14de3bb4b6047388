-- The soundness test in the parts that are called one after another.
use mathlib.Core.Path.{◌≡◌, refl, sym, ◌∙◌, ap, subst}
use mathlib.Core.Bool.{Bool, true, false, ◌&&◌}
use mathlib.Core.Logic.{◌↔◌}
use borrow.Author.Tests.{leb-true, eq-eqb, ne_eqb}
use Prim.Native.Nat.{◌<◌}
use lib.Dec.{leb, eqb}
use Rattle.laws.specs.Sets.{every}
use Rattle.laws.proofs.Tests.{and_both}
use Rattle.model.specs.Tables.{Size, Tables, lists_in}
use Rattle.model.specs.File.{max_states, max_commands, max_outcomes}
use Rattle.model.specs.Places.{first_command}
use Rattle.model.specs.Sound.{Sound}
use Rattle.model.specs.SoundTest.{size_sound, tables_long, row_sound, lists_sound, sound}
use Rattle.model.proofs.Soundness.{sound_iff}
use Rattle.tables.specs.declared.spans.Span.{Span}
use Rattle.tables.specs.Spans.{span_at}

pub sound_parts : (T : Tables)
    → sound T ≡ (size_sound T.size && tables_long T && eqb (first_command T 0) 0 && every (row_sound T) T.size.n
    && lists_sound 1 T.size.n (lists_in T))
unfolding sound
sound_parts T = refl

-- the first command, as it is read of state 0
module _ (T : Tables) (q : Span) (p : q ≡ span_at T 0) where
  first_read : q.first ≡ first_command T 0
  first_read = ap (λ (x : Span). x.first) p

  pub starts_at : q.first ≡ 0 → eqb (first_command T 0) 0 ≡ true
  starts_at e = eq-eqb _ _ (sym first_read ∙ e)

  pub starts_past : (q.first ≡ 0 → ⊥) → eqb (first_command T 0) 0 ≡ false
  starts_past n = ne_eqb _ _ (λ e. n (first_read ∙ e))

-- a sound size record has a state
pub some_state : (z : Size) → size_sound z ≡ true → 0 < z.n
unfolding size_sound
some_state z h =
    let states = leb 1 z.n && leb z.n max_states in
    let commands = states && leb z.m max_commands in
    let outcomes = commands && leb z.t max_outcomes in
    leb-true _ _ (and_both (leb 1 z.n) _ (and_both states _ (and_both commands _ (and_both outcomes _ h).0).0).0).0

-- what the computed test says
pub told : (T : Tables) {r : Bool} → r ≡ sound T → (r ≡ sound T) × ((r ≡ true) ↔ Sound T)
told T e = (e, subst (λ (b : Bool). (b ≡ true) ↔ Sound T) (sym e) (sound_iff T))
