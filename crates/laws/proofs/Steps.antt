-- Going along a list that is made from a rule, one number after another.
use mathlib.Core.Path.{◌≡◌, refl, sym, ap, ◌∙◌}
use mathlib.Core.List.{List, [], ◌∷◌}
use Prim.Native.Nat.{ℕ, suc, ◌+◌, ◌-◌, ◌<◌, ◌≤◌}
use native.Mathlib.Numerals.{add-one}
use native.Mathlib.Omega.{arith}
use lib.ListN.{length, get_or}
use lib.Seq.{slice}
use Rattle.laws.specs.Lists.{tabulate}
use Rattle.laws.proofs.Lists.{tabulate_is, slice_tabulate}

module _ {A : Type 0} where
  -- the numbers from i up to an end: the first of them, and none
  pub tabulate_more : (f : ℕ → A) (i end : ℕ) → i < end → tabulate f i (end - i) ≡ f i ∷ tabulate f (i + 1) (end - (i + 1))
  unfolding tabulate
  tabulate_more f i end h =
      let e : end - i ≡ suc (end - (i + 1)) = omega arith in
      rw (e, add-one i)

  pub tabulate_none : (f : ℕ → A) (i end : ℕ) → end ≤ i → tabulate f i (end - i) ≡ []
  unfolding tabulate
  tabulate_none f i end h = let e : end - i ≡ 0 = omega arith in rw e

  -- a part of a list is made by the rule that tells the list's members
  pub tabulate_slice : (l : List A) (d : A) (a b : ℕ) → a ≤ b → b ≤ length l → tabulate (λ i. get_or l i d) a (b - a) ≡ slice a b l
  tabulate_slice l d a b h k =
      sym (slice_tabulate (λ i. get_or l i d) a b (length l) h k)
      ∙ ap (λ (r : List A). slice a b r) (tabulate_is (λ i. get_or l i d) l d (λ i m. refl))
