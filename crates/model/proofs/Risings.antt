-- Outcomes that rise, by their places.
use mathlib.Core.Path.{◌≡◌, refl}
use mathlib.Core.Logic.{◌↔◌}
use mathlib.Core.List.{List, [], ◌∷◌}
use Prim.Native.Nat.{ℕ, zero, suc, ◌+◌, ◌<◌, ◌≤◌}
use native.Mathlib.Nat.{not-suc-le-zero}
use native.Mathlib.Omega.{arith}
use lib.ListN.{length, get_or}
use Rattle.laws.proofs.TestFacts.{leb_iff}
use Rattle.model.specs.Refusal.{given}
use Rattle.model.specs.File.{rising}
use Rattle.model.proofs.Answers.{need_iff}

-- an outcome in front: it is below n, not below `low`, and the others rise from above it
pub rising_cons : (n low o : ℕ) (os : List ℕ)
    → (rising n low (o ∷ os) ≡ given tt) ↔ ((o < n) × ((low ≤ o) × (rising n (o + 1) os ≡ given tt)))
unfolding rising
rising_cons n low o os = (λ e. simp (need_iff, leb_iff) at e, λ h. simp (need_iff, leb_iff) h)

rising_first : (n low : ℕ) (os : List ℕ) → rising n low os ≡ given tt → 0 < length os → low ≤ get_or os 0 0
rising_first n low [] e h = absurd (not-suc-le-zero h)
rising_first n low (o ∷ os) e h = ((rising_cons n low o os).0 e).1.0

pub rising_step : (n low : ℕ) (os : List ℕ) (i : ℕ) → rising n low os ≡ given tt → suc i < length os → get_or os i 0 < get_or os (suc i) 0
rising_step n low [] i e h = absurd (not-suc-le-zero h)
rising_step n low (o ∷ os) zero e h = omega (arith, rising_first n (o + 1) os ((rising_cons n low o os).0 e).1.1 (omega arith))
rising_step n low (o ∷ os) (suc i) e h = rising_step n (o + 1) os i ((rising_cons n low o os).0 e).1.1 (omega arith)

pub rising_all : (n low : ℕ) (os : List ℕ) → ((i : ℕ) → i < length os → get_or os i 0 < n)
    → ((i : ℕ) → suc i < length os → get_or os i 0 < get_or os (suc i) 0)
    → (0 < length os → low ≤ get_or os 0 0) → rising n low os ≡ given tt
unfolding rising
rising_all n low [] b s l = refl
rising_all n low (o ∷ os) b s l =
    (rising_cons n low o os).1 (
      b 0 (omega arith),
      (
        l (omega arith),
        rising_all n (o + 1) os (λ i h. b (suc i) (omega arith)) (λ i h. s (suc i) (omega arith)) (λ h. omega (arith, s 0 (omega arith))),
      ),
    )
