-- A sum over the members of a list is no less than the sum over those of them that are kept.
use mathlib.Core.Path.{◌≡◌, ap, ◌∙◌}
use mathlib.Core.Bool.{Bool}
use mathlib.Core.Logic.{⊎_elim}
use mathlib.Core.List.{List, [], ◌∷◌, ◌++◌, map, map-append}
use Prim.Native.Nat.{ℕ, zero, suc, ◌+◌, ◌≤◌}
use native.Mathlib.Omega.{arith}
use lib.ListN.{length, get_or, take}
use lib.Seq.{take-suc, take-length}
use Rattle.laws.specs.Passing.{passing}
use Rattle.laws.proofs.Tests.{true_or_false}
use Rattle.laws.proofs.Passing.{next_yes, next_no}

module _ {A : Type 0} (weight : A → ℕ) (sum : List A → ℕ) (sum_nil : sum [] ≡ 0)
    (sum_cons : (x : A) (xs : List A) → sum (x ∷ xs) ≡ weight x + sum xs) where
  sum_last : (xs : List A) (x : A) → sum (xs ++ x ∷ []) ≡ sum xs + weight x
  sum_last [] x = omega (arith, sum_cons x [], sum_nil)
  sum_last (y ∷ ys) x = omega (arith, sum_cons y (ys ++ x ∷ []), sum_last ys x, sum_cons y ys)

  -- h gives what the member at a place is kept as, and f which places are kept
  module _ (f : ℕ → Bool) (h : ℕ → A) (xs : List A) (d : A) (no_more : (i : ℕ) → weight (h i) ≤ weight (get_or xs i d)) where
    passing_upto : (n : ℕ) → n ≤ length xs → sum (map h (passing f n)) ≤ sum (take n xs)
    unfolding passing
    passing_upto zero l = omega arith
    passing_upto (suc n) l =
        let before = passing_upto n (omega arith) in
        let all : sum (take (suc n) xs) ≡ sum (take n xs) + weight (get_or xs n d)
        = ap sum (take-suc xs n d l) ∙ sum_last (take n xs) (get_or xs n d) in
        ⊎_elim
        (λ t.
        let kept : sum (map h (passing f (suc n))) ≡ sum (map h (passing f n)) + weight (h n)
        = ap (λ (r : List ℕ). sum (map h r)) (next_yes f n t) ∙ ap sum (map-append h (passing f n) (n ∷ []))
        ∙ sum_last (map h (passing f n)) (h n) in
        omega (arith, kept, all, no_more n, before))
        (λ t. omega (arith, ap (λ (r : List ℕ). sum (map h r)) (next_no f n t), all, before))
        (true_or_false (f n))

    pub passing_sum : sum (map h (passing f (length xs))) ≤ sum xs
    passing_sum = omega (arith, passing_upto (length xs) (omega arith), ap sum (take-length xs))
