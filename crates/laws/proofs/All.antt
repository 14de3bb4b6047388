-- Lists whose members all have a property.
use mathlib.Core.Path.{◌≡◌, sym, subst}
use mathlib.Core.Logic.{⊎_elim}
use mathlib.Core.List.Memᴰ
use mathlib.Core.List.{List, [], ◌∷◌, ◌++◌, Memᴰ}
use Prim.Native.Nat.{ℕ, zero, suc, ◌+◌, ◌<◌}
use native.Mathlib.Omega.{arith}
use lib.ListN.{length, get_or}
use Rattle.laws.specs.Lists.{tabulate}

pub data All {A : Type 0} (P : A → Type 0) : List A → Type 0 where
  none : All P []
  more : {x : A} {xs : List A} → P x → All P xs → All P (x ∷ xs)

module _ {A : Type 0} {P : A → Type 0} where
  -- the member at a place
  pub all_at : {xs : List A} → All P xs → (d : A) (i : ℕ) → i < length xs → P (get_or xs i d)
  all_at none d i h = absurd (omega arith)
  all_at (more p ps) d zero h = p
  all_at (more p ps) d (suc i) h = all_at ps d i (omega arith)

  -- and all, by their places
  pub all_of : (xs : List A) (d : A) → ((i : ℕ) → i < length xs → P (get_or xs i d)) → All P xs
  all_of [] d h = none
  all_of (x ∷ xs) d h = more (h 0 (omega arith)) (all_of xs d (λ i l. h (suc i) (omega arith)))

  pub all_append : {xs ys : List A} → All P xs → All P ys → All P (xs ++ ys)
  all_append none qs = qs
  all_append (more p ps) qs = more p (all_append ps qs)

  pub all_member : {x : A} {xs : List A} → All P xs → Memᴰ x xs → P x
  all_member none m = absurd (Memᴰ.not-nil m)
  all_member (more p ps) m = ⊎_elim (λ e. subst P (sym e) p) (all_member ps) (Memᴰ.cases_cons m)

  pub all_tabulate : (f : ℕ → A) (a k : ℕ) → ((i : ℕ) → i < k → P (f (a + i))) → All P (tabulate f a k)
  unfolding tabulate
  all_tabulate f a zero h = none
  all_tabulate f a (suc k) h =
      let first : a + 0 ≡ a = omega arith in
      more (subst (λ (j : ℕ). P (f j)) first (h 0 (omega arith)))
      (all_tabulate f (suc a) k
      (λ i l. let next : a + suc i ≡ suc a + i = omega arith in subst (λ (j : ℕ). P (f j)) next (h (suc i) (omega arith))))
