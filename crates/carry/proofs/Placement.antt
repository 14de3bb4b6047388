-- FFFF at the first n places, and then the entries under their old numbers: the table carried back. And what is promised of the call.
use mathlib.Core.Path.{◌≡◌, refl, sym, ap, subst, ◌∙◌}
use mathlib.Core.List.{List}
use mathlib.Core.Option.{Option, none, some}
use Prim.Native.Nat.{ℕ, ◌<◌, ◌≤◌}
use native.Mathlib.Omega.{arith}
use lib.Dec.{eqb}
use lib.ListN.{length, get_or}
use borrow.Author.Tests.{eqb-true, eqb-false}
use Rattle.laws.specs.Entry.{FFFF}
use Rattle.laws.specs.Filled.{Filled}
use Rattle.laws.specs.Lists.{overwrite}
use Rattle.laws.specs.Placed.{RisingPlaces, Placed}
use Rattle.laws.proofs.Defaults.{get_or_inside}
use Rattle.laws.proofs.Fills.{filled_is}
use Rattle.laws.proofs.Sets.{lowest_some, lowest_none}
use Rattle.model.specs.Refusal.{given, answer}
use Rattle.model.specs.Calls.{left}
use Rattle.model.specs.Carry.{new_in, entry_at, carried, carrying, AfterCarry, carry_call}
use Rattle.model.specs.Carried.{Carried}
use Rattle.model.proofs.CarryCalls.{CarrySound, carry_sound_iff, map_rise, carrying_iff}
use Rattle.model.proofs.CarryTables.{carried_back}

module _ (n : ℕ) (olds table places : List ℕ) {blank after : List ℕ} (f : CarrySound n olds (length table))
    (v : Filled n (λ _. FFFF) places blank) (w : Placed (length olds) olds (λ i. get_or table i 0) blank after) where
  -- a place below n, by whether the map has it
  entry_placed : (s : ℕ) → s < n → get_or after s 0 ≡ entry_at table (new_in olds s)
  unfolding new_in entry_at
  entry_placed s l = go (new_in olds s) refl
    where
      go : (o : Option ℕ) → new_in olds s ≡ o → get_or after s 0 ≡ entry_at table o
      go (some i) e =
          let (k, t, _) = lowest_some (λ j. eqb (get_or olds j 0) s) (length olds) i e in
          ap (λ (x : ℕ). get_or after x 0) (sym (eqb-true (get_or olds i 0) s t)) ∙ w.named i k
          ∙ get_or_inside table i 0 FFFF (omega (arith, f.long))
      go none e =
          w.others s (λ i k. eqb-false (get_or olds i 0) s (lowest_none (λ j. eqb (get_or olds j 0) s) (length olds) e i k)) ∙ v.low s l

  -- and one past them is as it was
  placed_filled : Filled n (λ s. entry_at table (new_in olds s)) places after
  placed_filled = record {
    same = w.same ∙ v.same;
    low = entry_placed;
    high = λ x k. w.others x (λ i l e. omega (arith, f.below i l)) ∙ v.high x k;
  }

  carried_placed : n ≤ length places → after ≡ overwrite (carried n olds table) places
  unfolding carried
  carried_placed h = filled_is h placed_filled

-- the call goes on
module _ (n : ℕ) (olds table places : List ℕ) (e : given (carried n olds table) ≡ carrying n olds table (length places)) where
  fitting : CarrySound n olds (length table)
  fitting = (carry_sound_iff n olds (length table)).0 ((carrying_iff n olds table (length places) (carried n olds table)).0 (sym e)).0

  pub room : n ≤ length places
  room = ((carrying_iff n olds table (length places) (carried n olds table)).0 (sym e)).1

  pub may_place : {k : ℕ} → k ≡ length places → (length olds ≤ length table) × RisingPlaces (length olds) olds k
  may_place same =
      let f = fitting in (
        f.long,
        record { inside = λ i l. omega (arith, f.below i l, same, room); rise = map_rise n olds (length table) f },
      )

  pub gives : {blank after : List ℕ} → Filled n (λ _. FFFF) places blank → Placed (length olds) olds (λ i. get_or table i 0) blank after
      → record { answers = given (tt {0}); places = after } ≡ carry_call n olds table places
  unfolding answer left
  gives v w = rw (← e, carried_placed n olds table places fitting v w room)

-- what an answer means follows of the equation
pub means : (n : ℕ) (olds table places after : List ℕ) → record { answers = given (tt {0}); places = after } ≡ carry_call n olds table places
    → Carried n olds table after
means n olds table places after e =
    subst (Carried n olds table) (sym (ap (λ (x : AfterCarry). x.places) e))
    (carried_back n olds table places (sym (ap (λ (x : AfterCarry). x.answers) e)))
