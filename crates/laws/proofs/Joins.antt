-- Joining lists of lists.
use mathlib.Core.Path.{◌≡◌, refl, ap, sym, ◌∙◌}
use mathlib.Core.List.{List, [], ◌∷◌, ◌++◌, append_assoc}
use Prim.Native.Nat.{ℕ, zero, suc, ◌+◌, ◌*◌, ◌≤◌}
use native.Mathlib.Nat.{suc-mul}
use native.Mathlib.Omega.{arith}
use lib.ListN.{length, length-append}
use Rattle.laws.specs.Lists.{tabulate, joined}

module _ {A : Type 0} where
  pub joined_append : (xs ys : List (List A)) → joined (xs ++ ys) ≡ joined xs ++ joined ys
  unfolding joined
  joined_append [] ys = refl
  joined_append (x ∷ xs) ys = ap (λ (r : List A). x ++ r) (joined_append xs ys) ∙ sym (append_assoc x (joined xs) (joined ys))

  pub length_joined : (xs ys : List (List A)) → length (joined (xs ++ ys)) ≡ length (joined xs) + length (joined ys)
  length_joined xs ys = ap length (joined_append xs ys) ∙ length-append (joined xs) (joined ys)

  -- n lists, none longer than k
  pub joined_bound : (f : ℕ → List A) (a n k : ℕ) → ((i : ℕ) → length (f i) ≤ k) → length (joined (tabulate f a n)) ≤ n * k
  unfolding joined tabulate
  joined_bound f a zero k h = omega arith
  joined_bound f a (suc n) k h =
      let m : suc n * k ≡ n * k + k = suc-mul n k in
      omega (arith, h a, joined_bound f (suc a) n k h, length-append (f a) (joined (tabulate f (suc a) n)))
