-- Laws of the numbers below a bound that pass a test, in order: each stands at the place that tells how many pass below it.
use mathlib.Core.Path.{◌≡◌, refl, sym, ap, ap₂, ◌∙◌}
use mathlib.Core.Bool.{Bool, true, false, cond}
use mathlib.Core.Logic.{◌⊎◌, inl, inr, ⊎_elim}
use mathlib.Core.List.{List, [], ◌∷◌, ◌++◌, append-nil}
use Prim.Native.Nat.{ℕ, zero, suc, ◌<◌}
use native.Mathlib.Nat.{le_of_suc-le-suc, eq-or-lt_of_le}
use native.Mathlib.Decide.{dec_lt}
use native.Mathlib.Omega.{arith}
use lib.ListN.{length, get_or, length-append, get_or-append}
use lib.Seq.{get_or_at, ext_get_or}
use Rattle.laws.specs.Sets.{how_many}
use Rattle.laws.specs.Passing.{passing}
use Rattle.laws.specs.Lists.{tabulate}
use Rattle.laws.proofs.Tests.{true_or_false}
use Rattle.laws.proofs.Lists.{length_tabulate, tabulate_at}
use Rattle.laws.proofs.Counts.{many_yes, many_no, many_upto, many_all_pass}
use Rattle.laws.proofs.Agree.{Agree}

module _ (f : ℕ → Bool) where
  -- a number that passes counts for those above it
  pub many_above : (i n : ℕ) → i < n → f i ≡ true → how_many f i < how_many f n
  many_above i n h e = omega (arith, many_yes f i e, many_upto f (suc i) n h)

  -- one number more
  pub next_yes : (n : ℕ) → f n ≡ true → passing f (suc n) ≡ passing f n ++ (n ∷ [])
  unfolding passing
  next_yes n e = rw e

  pub next_no : (n : ℕ) → f n ≡ false → passing f (suc n) ≡ passing f n
  unfolding passing
  next_no n e = rw e (append-nil (passing f n))

  -- there are as many as are counted
  pub length_passing : (n : ℕ) → length (passing f n) ≡ how_many f n
  unfolding passing how_many
  length_passing zero = refl
  length_passing (suc n) =
      ⊎_elim
      (λ e. omega (arith, ap length (next_yes n e), length-append (passing f n) (n ∷ []), many_yes f n e, length_passing n))
      (λ e. omega (arith, ap length (next_no n e), many_no f n e, length_passing n))
      (true_or_false (f n))

  -- ---- a number and its place

  -- s is the number at place k
  pub record Stands (n k s : ℕ) : Type 0 where
    pub low : s < n
    pub passes : f s ≡ true
    pub before : how_many f s ≡ k

  -- the last place, and those before it
  passing_yes : (n d : ℕ) → f n ≡ true → get_or (passing f (suc n)) (how_many f n) d ≡ n
  passing_yes n d e = rw (next_yes n e) (get_or_at (passing f n) n [] d (how_many f n) (length_passing n))

  passing_below : (n d k : ℕ) → k < how_many f n → get_or (passing f (suc n)) k d ≡ get_or (passing f n) k d
  unfolding passing
  passing_below n d k h = get_or-append (passing f n) _ d k (rw (length_passing n) h)

  -- the place of a number that passes
  pub passing_at : (n d i : ℕ) → i < n → f i ≡ true → get_or (passing f n) (how_many f i) d ≡ i
  passing_at zero d i h e = absurd (omega arith)
  passing_at (suc n) d i h e =
      ⊎_elim (λ q. rw q (passing_yes n d (rw q at e))) (λ l. passing_below n d (how_many f i) (many_above i n l e) ∙ passing_at n d i l e)
      (eq-or-lt_of_le (le_of_suc-le-suc h))

  -- the number at a place
  pub at_passing : (n d k : ℕ) → k < how_many f n → Stands n k (get_or (passing f n) k d)
  unfolding how_many
  at_passing zero d k h = absurd (omega arith)
  at_passing (suc n) d k h = go (at_passing n d k) (dec_lt k (how_many f n)) (true_or_false (f n))
    where
      go : (k < how_many f n → Stands n k (get_or (passing f n) k d)) → Dec (k < how_many f n) → (f n ≡ true) ⊎ (f n ≡ false)
          → Stands (suc n) k (get_or (passing f (suc n)) k d)
      go below (yes l) t = let s = below l in rw (passing_below n d k l)
          (record { low = omega arith; passes = s.passes; before = s.before })
      go below (no l) (inl e) =
          let q : k ≡ how_many f n = omega (arith, many_yes f n e) in
          rw q (rw (passing_yes n d e) (record { low = omega arith; passes = e; before = refl }))
      go below (no l) (inr e) = absurd (l (omega (arith, many_no f n e)))

  -- later places have higher numbers
  pub passing_rises : (n d i j : ℕ) → i < j → j < how_many f n → get_or (passing f n) i d < get_or (passing f n) j d
  passing_rises n d i j h l = go (dec_lt _ _) (at_passing n d i (omega arith)) (at_passing n d j l)
    where
      go : {a b : ℕ} → Dec (a < b) → Stands n i a → Stands n j b → a < b
      go (yes p) s t = p
      go {a} {b} (no p) s t = omega (arith, s.before, t.before, many_upto f b a (omega arith))

  -- where all pass, every number stands at its own place
  pub passing_all : (n : ℕ) → ((i : ℕ) → i < n → f i ≡ true) → passing f n ≡ tabulate (λ i. i) 0 n
  passing_all n h =
      let e : how_many f n ≡ n = many_all_pass f n h in
      ext_get_or 0 (passing f n) (tabulate (λ i. i) 0 n) (length_passing n ∙ e ∙ sym (length_tabulate (λ i. i) 0 n)) (λ i l.
      let k : i < n = omega (arith, length_passing n) in
      ap (λ (j : ℕ). get_or (passing f n) j 0) (sym (many_all_pass f i (λ j m. h j (omega arith))))
      ∙ passing_at n 0 i k (h i k) ∙ sym (tabulate_at (λ j. j) n i 0 k))

-- tests that agree
pub passing_same : (f g : ℕ → Bool) (n : ℕ) → Agree n f g → passing f n ≡ passing g n
unfolding passing
passing_same f g zero h = refl
passing_same f g (suc n) h =
    ap₂ (λ (l : List ℕ) (b : Bool). l ++ cond b (n ∷ []) []) (passing_same f g n (λ x k. h x (omega arith))) (h n (omega arith))
