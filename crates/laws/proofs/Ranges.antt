-- The first number of a range that passes a test is the lowest.
use mathlib.Core.Path.{◌≡◌, refl, sym, subst}
use mathlib.Core.Bool.{Bool, true, false, cond}
use mathlib.Core.Option.{Option, some}
use Prim.Native.Nat.{ℕ, zero, suc, ◌+◌, ◌<◌}
use native.Mathlib.Omega.{arith}
use Rattle.laws.specs.Sets.{first, lowest}
use Rattle.laws.specs.Lists.{tabulate}
use Rattle.laws.proofs.Sets.{IsLowest, lowest_eq, below_suc}

-- the first of the numbers from a on is the lowest, where none below a passes
first_is_lowest : (f : ℕ → Bool) (a k : ℕ) → ((j : ℕ) → j < a → f j ≡ false)
    → IsLowest f (a + k) (first f (tabulate (λ c. c) a k))
unfolding first tabulate
first_is_lowest f a zero h = λ i l. h i (omega arith)
first_is_lowest f a (suc k) h = go (λ e. first_is_lowest f (suc a) k (below_suc (λ j. f j ≡ false) a h e)) (f a) refl
  where
    rest : Option ℕ
    rest = first f (tabulate (λ c. c) (suc a) k)

    go : (f a ≡ false → IsLowest f (suc a + k) rest) → (b : Bool) → f a ≡ b → IsLowest f (a + suc k) (cond b (some a) rest)
    go on true e = (omega arith, e, h)
    go on false e = let q : suc a + k ≡ a + suc k = omega arith in subst (λ n. IsLowest f n rest) q (on e)

pub first_lowest : (f : ℕ → Bool) (n : ℕ) → first f (tabulate (λ c. c) 0 n) ≡ lowest f n
first_lowest f n =
    let q : 0 + n ≡ n = omega arith in
    sym (lowest_eq f n (first f (tabulate (λ c. c) 0 n)) (rw q at (first_is_lowest f 0 n (λ j l. absurd (omega arith)))))
