-- A flag of a walk, as a number and as what it says of the state.
use mathlib.Core.Path.{◌≡◌}
use mathlib.Core.Bool.{Bool, true, false}
use mathlib.Core.List.{List}
use Prim.Native.Nat.{ℕ, ◌<◌, ◌≤◌}
use lib.Dec.{eqb}
use lib.ListN.{get_or}
use borrow.Author.Tests.{leb-true, leb-false, le-leb, lt-leb, eqb-true, eq-eqb, ne_eqb}
use Rattle.laws.proofs.Tests.{and_both, and_join, and_false_left, and_false_right}
use Rattle.walks.specs.Flags.{known_in, walked_in, new_in}

module _ (s : List ℕ) (x : ℕ) where
  pub unknown_value : known_in s x ≡ false → 0 < get_or s x 0
  unfolding known_in
  unknown_value e = leb-false (get_or s x 0) 0 e

  pub walked_value : walked_in s x ≡ true → 2 ≤ get_or s x 0
  unfolding walked_in
  walked_value e = leb-true 2 (get_or s x 0) e

  pub unwalked_value : walked_in s x ≡ false → get_or s x 0 < 2
  unfolding walked_in
  unwalked_value e = leb-false 2 (get_or s x 0) e

  pub value_walked : 2 ≤ get_or s x 0 → walked_in s x ≡ true
  unfolding walked_in
  value_walked h = le-leb 2 (get_or s x 0) h

  pub value_unwalked : get_or s x 0 < 2 → walked_in s x ≡ false
  unfolding walked_in
  value_unwalked h = lt-leb 2 (get_or s x 0) h

  module _ (X : ℕ → Bool) where
    pub new_value : new_in s X x ≡ true → (get_or s x 0 ≡ 1) × (X x ≡ true)
    unfolding new_in
    new_value e = let (f, t) = and_both (eqb (get_or s x 0) 1) (X x) e in (eqb-true (get_or s x 0) 1 f, t)

    pub value_new : get_or s x 0 ≡ 1 → X x ≡ true → new_in s X x ≡ true
    unfolding new_in
    value_new e t = and_join (eqb (get_or s x 0) 1) (X x) (eq-eqb (get_or s x 0) 1 e) t

    pub value_old : (get_or s x 0 ≡ 1 → ⊥) → new_in s X x ≡ false
    unfolding new_in
    value_old h = and_false_left (eqb (get_or s x 0) 1) (X x) (ne_eqb (get_or s x 0) 1 h)

    pub not_taken : X x ≡ false → new_in s X x ≡ false
    unfolding new_in
    not_taken t = and_false_right (eqb (get_or s x 0) 1) (X x) t
