-- Tests as facts: with these equivalences `simp` turns a chain of tests into what it says, and back.
use mathlib.Core.Path.{◌≡◌}
use mathlib.Core.Bool.{Bool, true, ◌&&◌}
use mathlib.Core.Logic.{◌↔◌}
use Prim.Native.Nat.{ℕ, ◌-◌, ◌<◌, ◌≤◌}
use native.Mathlib.Omega.{arith}
use lib.Dec.{leb, ltb, eqb}
use borrow.Author.Tests.{leb-true, le-leb, ltb-true, lt-ltb, eqb-true, eq-eqb}
use Rattle.laws.specs.Sets.{every}
use Rattle.laws.proofs.Tests.{same_test, and_both, and_join}
use Rattle.laws.proofs.Sets.{every_at, every_of}

pub every_iff : (f : ℕ → Bool) (n : ℕ) → (every f n ≡ true) ↔ ((i : ℕ) → i < n → f i ≡ true)
every_iff f n = (every_at f n, every_of f n)

pub and_iff : (a b : Bool) → (a && b ≡ true) ↔ ((a ≡ true) × (b ≡ true))
and_iff a b = (and_both a b, λ h. and_join a b h.0 h.1)

pub leb_iff : (a b : ℕ) → (leb a b ≡ true) ↔ (a ≤ b)
leb_iff a b = (leb-true a b, le-leb a b)

pub eqb_iff : (a b : ℕ) → (eqb a b ≡ true) ↔ (a ≡ b)
eqb_iff a b = (eqb-true a b, eq-eqb a b)

-- one number is below another where there is a gap between them
pub ltb_gap : (a b : ℕ) → ltb a b ≡ ltb 0 (b - a)
ltb_gap a b =
    same_test (ltb a b) (ltb 0 (b - a))
    (λ e. lt-ltb 0 (b - a) (omega (arith, ltb-true a b e)))
    (λ e. lt-ltb a b (omega (arith, ltb-true 0 (b - a) e)))

-- and it is not where there is none
pub leb_gap : (a b : ℕ) → leb b a ≡ eqb (b - a) 0
leb_gap a b =
    same_test (leb b a) (eqb (b - a) 0)
    (λ e. eq-eqb (b - a) 0 (omega (arith, leb-true b a e)))
    (λ e. le-leb b a (omega (arith, eqb-true (b - a) 0 e)))
