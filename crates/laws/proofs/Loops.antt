-- Loops that test, and chains of tests: each is left at the first test that fails.
use mathlib.Core.Path.{◌≡◌, refl, sym}
use mathlib.Core.Bool.{Bool, true, false}
use Prim.Native.Nat.{ℕ, ◌+◌, ◌<◌, ◌≤◌}
use native.Mathlib.Numerals.{add-one}
use native.Mathlib.Omega.{arith}
use Rattle.laws.specs.Sets.{every}
use Rattle.laws.proofs.Tests.{clash, refute, and_join}
use Rattle.laws.proofs.Sets.{every_at, every_of}

-- a loop that tests f at each number from 0 on: before i all pass
module _ (f : ℕ → Bool) where
  pub every_none : every f 0 ≡ true
  unfolding every
  every_none = refl

  pub every_next : (i : ℕ) → every f i ≡ true → f i ≡ true → every f (i + 1) ≡ true
  unfolding every
  every_next i e t = rw (add-one i) (and_join (every f i) (f i) e t)

  pub every_stop : {i n : ℕ} → i < n → f i ≡ false → false ≡ every f n
  every_stop {i} {n} l e = sym (refute (every f n) (λ t. clash (every_at f n t i l) e))

  pub every_done : {i n : ℕ} → every f i ≡ true → n ≤ i → true ≡ every f n
  every_done {i} {n} e l = sym (every_of f n (λ j k. every_at f i e j (omega arith)))
