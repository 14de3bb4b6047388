-- Tests that agree where they are asked give the same answers.
use mathlib.Core.Path.{◌≡◌, refl, ap₂}
use mathlib.Core.Bool.{Bool, cond, ◌&&◌, ◌||◌}
use mathlib.Core.List.{List, [], ◌∷◌, Memᴰ}
use Prim.Native.Nat.{ℕ, zero, suc, ◌+◌, ◌<◌}
use native.Mathlib.Omega.{arith}
use Rattle.laws.specs.Sets.{any, each, every, exists, how_many}

-- below n, A and B have the same members
abbrev pub Agree : ℕ → (ℕ → Bool) → (ℕ → Bool) → Type 0
Agree n A B = (x : ℕ) → x < n → A x ≡ B x

module _ (A B : ℕ → Bool) where
  pub every_same : (n : ℕ) → Agree n A B → every A n ≡ every B n
  unfolding every
  every_same zero h = refl
  every_same (suc n) h = ap₂ (λ (a b : Bool). a && b) (every_same n (λ x l. h x (omega arith))) (h n (omega arith))

  pub exists_same : (n : ℕ) → Agree n A B → exists A n ≡ exists B n
  unfolding exists
  exists_same zero h = refl
  exists_same (suc n) h = ap₂ (λ (a b : Bool). a || b) (exists_same n (λ x l. h x (omega arith))) (h n (omega arith))

  pub many_same : (n : ℕ) → Agree n A B → how_many A n ≡ how_many B n
  unfolding how_many
  many_same zero h = refl
  many_same (suc n) h = ap₂ (λ (a : Bool) (k : ℕ). cond a 1 0 + k) (h n (omega arith)) (many_same n (λ x l. h x (omega arith)))

  pub any_same : (xs : List ℕ) → ((x : ℕ) → Memᴰ x xs → A x ≡ B x) → any A xs ≡ any B xs
  unfolding any
  any_same [] h = refl
  any_same (x ∷ xs) h = ap₂ (λ (a b : Bool). a || b) (h x (Memᴰ.head refl)) (any_same xs (λ y m. h y (Memᴰ.tail m)))

  pub each_same : (xs : List ℕ) → ((x : ℕ) → Memᴰ x xs → A x ≡ B x) → each A xs ≡ each B xs
  unfolding each
  each_same [] h = refl
  each_same (x ∷ xs) h = ap₂ (λ (a b : Bool). a && b) (h x (Memᴰ.head refl)) (each_same xs (λ y m. h y (Memᴰ.tail m)))
