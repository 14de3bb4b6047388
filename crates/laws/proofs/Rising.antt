-- A number that does not fall from one index to the next does not fall, and what lies between the first and the last of some numbers
-- lies between two neighbours.
use mathlib.Core.Path.{◌≡◌, subst}
use mathlib.Core.List.{List}
use Prim.Native.Nat.{ℕ, zero, suc, ◌+◌, ◌-◌, ◌<◌, ◌≤◌}
use native.Mathlib.Nat.{add-zero, add-suc}
use native.Mathlib.Decide.{dec_lt}
use native.Mathlib.Omega.{arith}
use lib.ListN.{get_or}
use Rattle.laws.specs.Rising.{RisesIn}

module _ (f : ℕ → ℕ) (n : ℕ) (step : (i : ℕ) → i < n → f i ≤ f (suc i)) where
  rises_by : (i d : ℕ) → i + d ≤ n → f i ≤ f (i + d)
  rises_by i zero h = rw (add-zero i) (omega arith)
  rises_by i (suc d) h = rw (add-suc i d) (omega (arith, rises_by i d (omega arith), step (i + d) (omega arith)))

  pub rises : (i j : ℕ) → i ≤ j → j ≤ n → f i ≤ f j
  rises i j p q = let e : i + (j - i) ≡ j = omega arith in subst (λ (x : ℕ). f i ≤ f x) e (rises_by i (j - i) (omega arith))

-- the same of the n numbers after the one at index a: none from there on is above the last
pub up_to_last : (f : ℕ → ℕ) (a n : ℕ) → ((k : ℕ) → k < n → f (a + k) ≤ f (suc (a + k))) → (j : ℕ) → a ≤ j → j ≤ a + n
    → f j ≤ f (a + n)
up_to_last f a n step j p q =
    let e : a + (j - a) ≡ j = omega arith in
    subst (λ (x : ℕ). f x ≤ f (a + n)) e
    (rises (λ k. f (a + k)) n (λ k l. rw (add-suc a k) (step k l)) (j - a) n (omega arith) (omega arith))

-- what is from the first number on and below the last is from some number on and below the next
pub between : (f : ℕ → ℕ) (j n : ℕ) → f 0 ≤ j → j < f n → (i : ℕ) × (i < n) × (f i ≤ j) × (j < f (suc i))
between f j zero p q = absurd (omega arith)
between f j (suc n) p q = go (between f j n p) (dec_lt j (f n))
  where
    go : (j < f n → (i : ℕ) × (i < n) × (f i ≤ j) × (j < f (suc i))) → Dec (j < f n)
        → (i : ℕ) × (i < suc n) × (f i ≤ j) × (j < f (suc i))
    go before (yes d) = let (i, l, a, b) = before d in (i, omega arith, a, b)
    go before (no d) = (n, omega arith, omega arith, q)

-- entries of a part of a table that rise
pub rises_along : {l : List ℕ} {a e : ℕ} → RisesIn l a e → (i j : ℕ) → a ≤ i → i ≤ j → j < e → get_or l i 0 ≤ get_or l j 0
rises_along {l} r i j p q h =
    let z : i + (j - i) ≡ j = omega arith in
    subst (λ (k : ℕ). get_or l i 0 ≤ get_or l k 0) z
    (up_to_last (λ k. get_or l k 0) i (j - i) (λ k b. omega (arith, r.next (i + k) (omega arith) (omega arith))) i (omega arith)
    (omega arith))
