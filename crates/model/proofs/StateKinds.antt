-- What a state counts as: a state of a valid plan is exactly one of failing, resting and active. How many are active.
use mathlib.Core.Path.{◌≡◌, refl}
use mathlib.Core.Bool.{true, false, cond, ◌&&◌}
use mathlib.Core.Logic.{◌⊎◌, inl, inr, ⊎_elim}
use Prim.Native.Nat.{ℕ, zero, suc, ◌+◌, ◌<◌, ◌≤◌}
use native.Mathlib.Omega.{arith}
use lib.Dec.{eqb, ltb, eqb-suc-zero}
use borrow.Author.Tests.{eqb-true, eq-eqb, ltb-true, lt-ltb}
use Rattle.model.specs.Plan.{Plan, ordinary, active, stuck_at, stuck, failing, resting, Valid}
use Rattle.model.specs.Search.{actives}
use Rattle.laws.specs.Sets.{how_many}
use Rattle.laws.proofs.Sets.{many_parts}
use Rattle.laws.proofs.Tests.{clash, refute, and_both, and_join, or_cases, or_left, or_right}

module _ (P : Plan) (s : ℕ) where
  -- ---- failing and stuck, by kind and count

  abbrev Counts : Type 0
  Counts = (P.kind s ≡ 1) ⊎ ((P.kind s ≡ 0) × (P.commands s ≡ 0))

  pub failing_of : Counts → failing P s ≡ true
  unfolding failing
  failing_of (inl k) = or_left (eqb (P.kind s) 1) _ (eq-eqb _ _ k)
  failing_of (inr h) = or_right (eqb (P.kind s) 1) _ (and_join _ _ (eq-eqb _ _ h.0) (eq-eqb _ _ h.1))

  pub stuck_is : stuck P s ≡ true → (P.kind s ≡ 0) × (P.commands s ≡ 0)
  unfolding stuck
  stuck_is e = let (k, n) = and_both (eqb (P.kind s) 0) (eqb (P.commands s) 0) e in (eqb-true _ _ k, eqb-true _ _ n)

  pub failing_is : failing P s ≡ true → Counts
  unfolding failing stuck
  failing_is e = ⊎_elim (λ k. inl (eqb-true _ _ k)) (λ h. inr (stuck_is h)) (or_cases (eqb (P.kind s) 1) _ e)

  -- ---- active

  pub active_is : active P s ≡ true → (ordinary P s ≡ true) × (0 < P.commands s)
  unfolding active
  active_is e = let b = and_both (ordinary P s) (ltb 0 (P.commands s)) e in (b.0, ltb-true 0 (P.commands s) b.1)

  pub active_of : ordinary P s ≡ true → 0 < P.commands s → active P s ≡ true
  unfolding active
  active_of e l = and_join (ordinary P s) (ltb 0 (P.commands s)) e (lt-ltb 0 (P.commands s) l)

  pub active_stands : active P s ≡ true → failing P s ≡ false
  unfolding ordinary
  active_stands e =
      let (o, l) = active_is e in
      let zero = eqb-true (P.kind s) 0 o in
      refute (failing P s) (λ f. ⊎_elim (λ k. omega (arith, k, zero)) (λ h. omega (arith, h.1, l)) (failing_is f))

  -- ---- one of the three

  pub data Kind : Type 0 where
    fails : failing P s ≡ true → resting P s ≡ false → active P s ≡ false → Kind
    rests : failing P s ≡ false → resting P s ≡ true → active P s ≡ false → Kind
    acts : failing P s ≡ false → resting P s ≡ false → active P s ≡ true → Kind

  module _ (S : Valid P) (l : s < P.states) where
    pub kind_of : Kind
    unfolding ordinary failing active resting
    kind_of = go (P.kind s) (P.commands s) refl refl (S.kinds s l)
      where
        go : (k n : ℕ) → P.kind s ≡ k → P.commands s ≡ n → k ≤ 2 → Kind
        go zero zero p q h = fails (failing_of (inr (p, q))) (rw p) (rw (p, q))
        go zero (suc n) p q h = acts (rw (p, q, eqb-suc-zero)) (rw p) (rw (p, q) (lt-ltb 0 (suc n) (omega arith)))
        go (suc zero) n p q h = fails (failing_of (inl p)) (rw p) (rw p)
        go (suc (suc zero)) n p q h = rests (rw p) (rw p) (rw p)
        go (suc (suc (suc k))) n p q h = absurd (omega arith)

    -- only an active state has commands
    pub command_active : (c : ℕ) → c < P.commands s → active P s ≡ true
    unfolding ordinary
    command_active c m = active_of (eq-eqb (P.kind s) 0 (S.idle s c l m)) (omega arith)

    pub idle_none : active P s ≡ false → P.commands s ≡ 0
    idle_none e = go (P.commands s) refl
      where
        go : (n : ℕ) → P.commands s ≡ n → n ≡ 0
        go zero q = refl
        go (suc n) q = clash (command_active 0 (omega arith)) e

-- ---- how many there are

module _ (P : Plan) where
  -- an ordinary state has commands or is stuck
  pub bound_counts : actives P + how_many (stuck P) P.states ≡ how_many (ordinary P) P.states
  unfolding actives active stuck ordinary
  bound_counts = many_parts (active P) (stuck P) (ordinary P) P.states (λ x l. one (P.kind x) (P.commands x))
    where
      one : (k n : ℕ) → cond (eqb k 0 && ltb 0 n) 1 0 + cond (stuck_at k n) 1 0 ≡ cond (eqb k 0) 1 0
      one zero zero = refl
      one zero (suc n) = rw (lt-ltb 0 (suc n) (omega arith), eqb-suc-zero)
      one (suc k) n = rw eqb-suc-zero

  -- the bound on the rounds is the number of active states
  pub bound_is : actives P ≡ how_many (active P) P.states
  unfolding actives
  bound_is = refl
