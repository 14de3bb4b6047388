-- Two steps that agree below n on sets that agree there grow sets that agree there; and whether a number is ever in a set that grows.
use mathlib.Core.Path.{◌≡◌, ap₂}
use mathlib.Core.Bool.{Bool, true, ◌||◌}
use mathlib.Core.Logic.{⊎_elim}
use mathlib.Core.Option.{Option}
use Prim.Native.Nat.{ℕ, zero, suc}
use native.Mathlib.Omega.{arith}
use Rattle.laws.specs.Sets.{found, lowest, grow}
use Rattle.laws.proofs.Tests.{clash, same_test, true_or_false}
use Rattle.laws.proofs.Sets.{found_is, found_none, lowest_some, lowest_none}
use Rattle.laws.proofs.Grow.{grow_upto}
use Rattle.laws.proofs.Agree.{Agree}

pub grow_same : (n : ℕ) (F G : (ℕ → Bool) → ℕ → Bool) → ((A B : ℕ → Bool) → Agree n A B → Agree n (F A) (G B)) → (K L : ℕ → Bool)
    → Agree n K L
    → (k : ℕ) → Agree n (grow F K k) (grow G L k)
unfolding grow
grow_same n F G step K L h zero = h
grow_same n F G step K L h (suc k) = λ x l.
    let before = grow_same n F G step K L h k in
    ap₂ (λ (a b : Bool). a || b) (before x l) (step (grow F K k) (grow G L k) before x l)

-- the number of the first step that has s is found if the last step looked at has s
pub grow_found : (F : (ℕ → Bool) → ℕ → Bool) (K : ℕ → Bool) (n s : ℕ) → found (lowest (λ k. grow F K k s) (suc n)) ≡ grow F K n s
grow_found F K n s = same_test (found o) (grow F K n s) there back
  where
    o : Option ℕ
    o = lowest (λ k. grow F K k s) (suc n)

    there : found o ≡ true → grow F K n s ≡ true
    there e =
        let (i, q) = found_is o e in
        let f = lowest_some (λ k. grow F K k s) (suc n) i q in
        grow_upto F K i n s (omega (arith, f.0)) f.1

    back : grow F K n s ≡ true → found o ≡ true
    back e = ⊎_elim (λ t. t) (λ t. clash e (lowest_none (λ k. grow F K k s) (suc n) (found_none o t) n (omega arith)))
        (true_or_false (found o))
