-- Sets that grow by a step: `grow F K k` is K and, k times over, what F adds to the set so far.
-- If F is monotone on the numbers below n, the set is closed under F after n times.
use mathlib.Core.Path.{◌≡◌, subst}
use mathlib.Core.Bool.{Bool, true, false}
use mathlib.Core.Logic.{◌⊎◌, ⊎_elim}
use Prim.Native.Nat.{ℕ, zero, suc, ◌+◌, ◌-◌, ◌<◌, ◌≤◌}
use native.Mathlib.Nat.{add-zero, add-suc}
use native.Mathlib.Omega.{arith}
use Rattle.laws.specs.Sets.{how_many, grow}
use Rattle.laws.proofs.Tests.{clash, or_cases, or_left, or_right}
use Rattle.laws.proofs.Sets.{Part, many_bound, settles, settles_by}

-- a larger set gives no smaller one
abbrev pub Monotone : ℕ → ((ℕ → Bool) → ℕ → Bool) → Type 0
Monotone n F = (A B : ℕ → Bool) → Part n A B → Part n (F A) (F B)

module _ (F : (ℕ → Bool) → ℕ → Bool) (K : ℕ → Bool) where
  pub grow_step : (k s : ℕ) → grow F K (suc k) s ≡ true → (grow F K k s ≡ true) ⊎ (F (grow F K k) s ≡ true)
  unfolding grow
  grow_step k s e = or_cases (grow F K k s) (F (grow F K k) s) e

  pub grow_more : (k s : ℕ) → grow F K k s ≡ true → grow F K (suc k) s ≡ true
  unfolding grow
  grow_more k s e = or_left (grow F K k s) (F (grow F K k) s) e

  pub grow_add : (k s : ℕ) → F (grow F K k) s ≡ true → grow F K (suc k) s ≡ true
  unfolding grow
  grow_add k s e = or_right (grow F K k s) (F (grow F K k) s) e

  pub grow_first : (k s : ℕ) → K s ≡ true → grow F K k s ≡ true
  unfolding grow
  grow_first zero s e = e
  grow_first (suc k) s e = grow_more k s (grow_first k s e)

  pub grow_upto : (j k s : ℕ) → j ≤ k → grow F K j s ≡ true → grow F K k s ≡ true
  grow_upto j k s l e = subst (λ i. grow F K i s ≡ true) q (on (k - j))
    where
      q : j + (k - j) ≡ k
      q = omega arith

      on : (d : ℕ) → grow F K (j + d) s ≡ true
      on zero = rw (add-zero j) e
      on (suc d) = rw (add-suc j d) (grow_more (j + d) s (on d))

  -- what holds of K, and of what F adds to a set of which it holds, holds throughout
  pub grow_all : (Q : ℕ → Type 0) → ((s : ℕ) → K s ≡ true → Q s)
      → ((A : ℕ → Bool) → ((x : ℕ) → A x ≡ true → Q x) → (s : ℕ) → F A s ≡ true → Q s) → (k s : ℕ) → grow F K k s ≡ true → Q s
  unfolding grow
  grow_all Q first next zero s e = first s e
  grow_all Q first next (suc k) s e =
      let below : (x : ℕ) → grow F K k x ≡ true → Q x = grow_all Q first next k in
      ⊎_elim (below s) (next (grow F K k) below s) (grow_step k s e)

  module _ (n : ℕ) (mono : Monotone n F) where
    -- the step from k adds nothing
    abbrev pub Still : ℕ → Type 0
    Still k = Part n (grow F K (suc k)) (grow F K k)

    -- after a step that adds nothing there is nothing to come
    pub still_all : (k : ℕ) → Still k → (j : ℕ) → Part n (grow F K j) (grow F K k)
    unfolding grow
    still_all k h zero = λ s l e. grow_first k s e
    still_all k h (suc j) = λ s l e.
        let part = still_all k h j in
        ⊎_elim (part s l) (λ t. h s l (grow_add k s (mono (grow F K j) (grow F K k) part s l t))) (grow_step j s e)

    -- some step up to the n-th adds nothing
    pub some_still : (j : ℕ) × (j ≤ n) × Still j
    some_still = settles_by n (grow F K) (λ k s l. grow_more k s)

    pub settled : (k : ℕ) → Part n (grow F K k) (grow F K n)
    settled k s l e = let (j, le, h) = some_still in grow_upto j n s le (still_all j h k s l e)

    pub closed : Part n (F (grow F K n)) (grow F K n)
    closed s l e = settled (suc n) s l (grow_add n s e)

    -- what is new at step r is preceded by K and by r steps that each add a number
    pub steps_bound : (r s : ℕ) → s < n → grow F K r s ≡ true → ((k : ℕ) → k < r → grow F K k s ≡ false) → how_many K n + r ≤ n
    unfolding grow
    steps_bound r s l e new =
        ⊎_elim (λ (j, before, still). clash (still_all j still r s l e) (new j before))
        (λ c. omega (arith, c, many_bound (grow F K r) n))
        (settles n (grow F K) (λ k t m. grow_more k t) r)
