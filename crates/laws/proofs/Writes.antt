-- Entries written to a table one after another.
use mathlib.Core.Path.{◌≡◌, refl, ap, sym, ◌∙◌}
use mathlib.Core.List.{List, [], ◌∷◌, ◌++◌}
use Prim.Native.Nat.{ℕ, suc, ◌+◌, ◌-◌, ◌<◌, ◌≤◌}
use native.Mathlib.Omega.{arith}
use native.Mathlib.Numerals.{add-one}
use native.Mathlib.Nat.{add-zero, not-suc-le-zero, le_of_suc-le-suc}
use lib.ListN.{length, drop, set, length-set, length-append}
use lib.Seq.{set-append_seam, append_snoc}
use Rattle.laws.specs.Lists.{tabulate, overwrite}
use Rattle.laws.specs.Writes.{put_all}
use Rattle.laws.proofs.Lists.{length_tabulate}

module _ {A : Type 0} where
  pub length_put : (l : List A) (i : ℕ) (xs : List A) → length (put_all l i xs) ≡ length l
  unfolding put_all
  length_put l i [] = refl
  length_put l i (x ∷ xs) = length_put (set l i x) (i + 1) xs ∙ length-set l i x

  pub put_append : (l : List A) (i : ℕ) (xs ys : List A) → put_all l i (xs ++ ys) ≡ put_all (put_all l i xs) (i + length xs) ys
  unfolding put_all
  put_append l i [] ys = ap (λ (z : ℕ). put_all l z ys) (sym (add-zero i))
  put_append l i (x ∷ xs) ys =
      let e : i + 1 + length xs ≡ i + suc (length xs) = omega arith in
      put_append (set l i x) (i + 1) xs ys ∙ ap (λ (z : ℕ). put_all (put_all (set l i x) (i + 1) xs) z ys) e

  -- what is written past xs follows them
  pub put_then : (l : List A) (i : ℕ) (xs ys : List A) {m r : List A} {j : ℕ} → m ≡ put_all l i xs → r ≡ put_all m j ys → j ≡ i + length xs
      → r ≡ put_all l i (xs ++ ys)
  put_then l i xs ys p q e = q ∙ rw (p, e) (sym (put_append l i xs ys))

  put_after : (pre l xs : List A) → length xs ≤ length l → put_all (pre ++ l) (length pre) xs ≡ pre ++ (xs ++ drop (length xs) l)
  unfolding put_all
  put_after pre l [] h = refl
  put_after pre [] (x ∷ xs) h = absurd (not-suc-le-zero h)
  put_after pre (y ∷ l) (x ∷ xs) h =
      let r = put_after (pre ++ (x ∷ [])) l xs (le_of_suc-le-suc h) in
      let e : length (pre ++ (x ∷ [])) ≡ length pre + 1 = length-append pre (x ∷ []) in
      rw (set-append_seam pre y l x) (rw (e, append_snoc pre x l, append_snoc pre x (xs ++ drop (length xs) l)) at r)

  -- written from the front, they are the first places
  pub put_front : (l xs : List A) → length xs ≤ length l → put_all l 0 xs ≡ overwrite xs l
  unfolding overwrite
  put_front l xs h = put_after [] l xs h

  -- a table whose first n places are written by a rule: the table, as far as it is written up to place i, once the rest is
  module _ (f : ℕ → A) (n : ℕ) where
    abbrev pub ruled : ℕ → List A → List A
    ruled i l = put_all l i (tabulate f i (n - i))

    pub ruled_next : (i : ℕ) (l : List A) {x : A} → i < n → x ≡ f i → ruled (i + 1) (set l i x) ≡ ruled i l
    unfolding put_all tabulate
    ruled_next i l h e =
        let a : n - i ≡ suc (n - (i + 1)) = omega arith in
        rw (e, a) (ap (λ (j : ℕ). put_all (set l i (f i)) (i + 1) (tabulate f j (n - (i + 1)))) (add-one i))

    pub ruled_last : (i : ℕ) (l : List A) → n ≤ i → ruled i l ≡ l
    unfolding put_all tabulate
    ruled_last i l h = let a : n - i ≡ 0 = omega arith in rw a

    pub ruled_first : (l : List A) → n ≤ length l → ruled 0 l ≡ overwrite (tabulate f 0 n) l
    ruled_first l h =
        let a : n - 0 ≡ n = omega arith in
        rw a (put_front l (tabulate f 0 n) (rw (length_tabulate f 0 n) h))
