-- Tests that are each other's contrary: each passes the one exactly if not any passes the other, and some the one exactly if not every the
-- other.
use mathlib.Core.Path.{◌≡◌, refl, ap₂, ◌∙◌}
use mathlib.Core.Bool.{Bool, true, false, not, ◌&&◌, ◌||◌}
use mathlib.Core.List.{List, [], ◌∷◌, Memᴰ}
use Prim.Native.Nat.{ℕ, zero, suc, ◌<◌}
use native.Mathlib.Omega.{arith}
use Rattle.laws.specs.Sets.{any, each, every, exists}

not_or : (a b : Bool) → not a && not b ≡ not (a || b)
not_or true b = refl
not_or false b = refl

not_and : (a b : Bool) → not a || not b ≡ not (a && b)
not_and true b = refl
not_and false b = refl

module _ (f g : ℕ → Bool) where
  pub each_not : (xs : List ℕ) → ((x : ℕ) → Memᴰ x xs → f x ≡ not (g x)) → each f xs ≡ not (any g xs)
  unfolding each any
  each_not [] h = refl
  each_not (x ∷ xs) h =
      ap₂ (λ (a b : Bool). a && b) (h x (Memᴰ.head refl)) (each_not xs (λ y m. h y (Memᴰ.tail m)))
      ∙ not_or (g x) (any g xs)

  pub exists_not : (n : ℕ) → ((i : ℕ) → i < n → f i ≡ not (g i)) → exists f n ≡ not (every g n)
  unfolding exists every
  exists_not zero h = refl
  exists_not (suc n) h =
      ap₂ (λ (a b : Bool). a || b) (exists_not n (λ i l. h i (omega arith))) (h n (omega arith))
      ∙ not_and (every g n) (g n)
