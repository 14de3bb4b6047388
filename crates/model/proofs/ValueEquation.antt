-- The verdict, 1 at a lost state and 0 at a safe one, is the least solution of the value equation.
use mathlib.Core.Path.{◌≡◌, refl, sym, subst}
use mathlib.Core.Bool.{true, false}
use mathlib.Core.Logic.{⊎_elim}
use mathlib.Core.List.Memᴰ
use mathlib.Core.List.{List, [], ◌∷◌, map, Memᴰ}
use Prim.Native.Nat.{ℕ, ◌<◌, ◌≤◌}
use native.Mathlib.Nat.{max-zero}
use native.Mathlib.Omega.{arith}
use Rattle.laws.specs.Sets.{grow}
use Rattle.laws.specs.Lists.{tabulate}
use Rattle.laws.proofs.Tests.{true_or_false}
use Rattle.laws.proofs.Grow.{grow_all}
use Rattle.laws.proofs.Lists.{mem_at, at_mem}
use Rattle.model.specs.Plan.{Plan, Valid, failing, active}
use Rattle.model.specs.Verdict.{forced, lost}
use Rattle.model.specs.Value.{successors, maximum, minimum, backup, Solves, value, LeastSolution}
use Rattle.model.proofs.StateKinds.{Kind, fails, rests, acts, kind_of, active_is, active_stands}
use Rattle.model.proofs.Choices.{hits_is, misses, forced_is, choice_some}
use Rattle.model.proofs.Layers.{failing_lost, lost_forced, lost_layer, safe_takes}

-- ---- the largest and the least of a list of values

module _ {A : Type 0} (v : A → ℕ) (k : ℕ) where
  maximum_under : (xs : List A) → ((x : A) → Memᴰ x xs → v x ≤ k) → maximum (map v xs) ≤ k
  unfolding maximum
  maximum_under [] h = omega arith
  maximum_under (x ∷ xs) h =
      let here : v x ≤ k = h x (Memᴰ.head refl) in
      let rest : maximum (map v xs) ≤ k = maximum_under xs (λ y m. h y (Memᴰ.tail m)) in
      omega arith

  maximum_over : (xs : List A) (x : A) → Memᴰ x xs → k ≤ v x → k ≤ maximum (map v xs)
  unfolding maximum
  maximum_over [] x m h = absurd (Memᴰ.not-nil m)
  maximum_over (y ∷ xs) x m h =
      ⊎_elim
      (λ q. let here : k ≤ v y = rw q at h in omega arith)
      (λ t. let rest : k ≤ maximum (map v xs) = maximum_over xs x t h in omega arith)
      (Memᴰ.cases_cons m)

  minimum_over : (xs : List A) (x : A) → Memᴰ x xs → ((y : A) → Memᴰ y xs → k ≤ v y) → k ≤ minimum (map v xs)
  unfolding minimum
  minimum_over [] x m h = absurd (Memᴰ.not-nil m)
  minimum_over (y ∷ []) x m h = h y (Memᴰ.head refl)
  minimum_over (y ∷ z ∷ xs) x m h =
      let here : k ≤ v y = h y (Memᴰ.head refl) in
      let rest : k ≤ minimum (map v (z ∷ xs)) = minimum_over (z ∷ xs) z (Memᴰ.head refl) (λ u t. h u (Memᴰ.tail t)) in
      omega arith

  minimum_under : (xs : List A) (x : A) → Memᴰ x xs → v x ≤ k → minimum (map v xs) ≤ k
  unfolding minimum
  minimum_under [] x m h = absurd (Memᴰ.not-nil m)
  minimum_under (y ∷ []) x m h =
      ⊎_elim (λ q. rw q at h) (λ t. absurd (Memᴰ.not-nil t)) (Memᴰ.cases_cons m)
  minimum_under (y ∷ z ∷ xs) x m h =
      ⊎_elim
      (λ q. let here : v y ≤ k = rw q at h in omega arith)
      (λ t. let rest : minimum (map v (z ∷ xs)) ≤ k = minimum_under (z ∷ xs) x t h in omega arith)
      (Memᴰ.cases_cons m)

-- ---- the right side of the equation, at an active state

module _ (P : Plan) (v : ℕ → ℕ) (s : ℕ) (act : active P s ≡ true) where
  worst : List ℕ → ℕ
  worst xs = maximum (map v xs)

  sets : List (List ℕ)
  sets = tabulate (P.outcomes s) 0 (P.commands s)

  backup_active : backup P v s ≡ minimum (map worst sets)
  unfolding backup successors worst sets
  backup_active = rw (active_stands P s act, act)

  has : (c : ℕ) → c < P.commands s → Memᴰ (P.outcomes s c) sets
  unfolding sets
  has c l = mem_at (P.outcomes s) (P.commands s) c l

  -- every command has an outcome worth k or more
  backup_over : (k : ℕ) → ((c : ℕ) → c < P.commands s → (x : ℕ) × Memᴰ x (P.outcomes s c) × (k ≤ v x))
      → k ≤ backup P v s
  unfolding worst sets
  backup_over k h =
      rw backup_active
      (minimum_over worst k sets (P.outcomes s 0) (has 0 (active_is P s act).1) (λ xs m.
      let (c, l, q) = at_mem (P.outcomes s) (P.commands s) m in
      let (x, out, le) = h c (omega arith) in
      subst (λ ys. k ≤ worst ys) (sym q) (maximum_over v k (P.outcomes s c) x out le)))

  -- some command has no outcome worth more than k
  backup_under : (k c : ℕ) → c < P.commands s → ((x : ℕ) → Memᴰ x (P.outcomes s c) → v x ≤ k) → backup P v s ≤ k
  unfolding worst
  backup_under k c l h =
      rw backup_active
      (minimum_under worst k sets (P.outcomes s c) (has c l) (maximum_under v k (P.outcomes s c) h))

-- ---- the verdict's value

module _ (P : Plan) (s : ℕ) where
  value_lost : lost P s ≡ true → value P s ≡ 1
  unfolding value
  value_lost e = rw e

  value_safe : lost P s ≡ false → value P s ≡ 0
  unfolding value
  value_safe e = rw e

  value_bound : value P s ≤ 1
  value_bound = ⊎_elim (λ e. omega (arith, value_lost e)) (λ e. omega (arith, value_safe e)) (true_or_false (lost P s))

module _ (P : Plan) (S : Valid P) where
  module _ (s : ℕ) (l : s < P.states) (act : active P s ≡ true) where
    solves_lost : lost P s ≡ true → value P s ≡ backup P (value P) s
    solves_lost e =
        let (a, hit) = forced_is P (lost P) s (lost_forced P S s l act e) in
        let over = backup_over P (value P) s act 1 (λ c m.
        let (x, out, t) = hits_is P (lost P) s c (hit c m) in
        (x, out, omega (arith, value_lost P x t))) in
        let under = backup_under P (value P) s act 1 0 (active_is P s act).1 (λ x m. value_bound P x) in
        rw (value_lost P s e) (omega arith)

    solves_safe : lost P s ≡ false → value P s ≡ backup P (value P) s
    solves_safe e =
        let (c, q) = safe_takes P S s l act e in
        let (a, m, out) = choice_some P (lost P) s c q in
        let low = backup_under P (value P) s act 0 c m (λ x t. omega (arith, value_safe P x (misses P (lost P) s c x out t))) in
        rw (value_safe P s e) (omega arith)

  solves : Solves P (value P)
  unfolding backup successors maximum minimum
  solves s l = go (kind_of P s S l)
    where
      go : Kind P s → value P s ≡ backup P (value P) s
      go (fails f t i) = rw f (value_lost P s (failing_lost P S s l f))
      go (rests f t i) = rw (f, i) (sym (max-zero (value P s)))
      go (acts f t a) = ⊎_elim (solves_lost s l a) (solves_safe s l a) (true_or_false (lost P s))

  module _ (v : ℕ → ℕ) (solved : Solves P v) where
    -- a solution is 1 or more at every state of a layer
    layers_over : (k s : ℕ) → grow (forced P) (failing P) k s ≡ true → s < P.states → 1 ≤ v s
    unfolding backup
    layers_over =
        grow_all (forced P) (failing P) (λ s. s < P.states → 1 ≤ v s)
        (λ s e l. let q : v s ≡ 1 = rw e at (solved s l) in omega arith)
        (λ A below s e l.
        let (act, hit) = forced_is P A s e in
        rw (solved s l)
        (backup_over P v s act 1 (λ c m.
        let (x, out, t) = hits_is P A s c (hit c m) in
        (x, out, below x t (S.inside s c x l m out)))))

    least : (s : ℕ) → s < P.states → value P s ≤ v s
    least s l =
        ⊎_elim
        (λ e. omega (arith, value_lost P s e, layers_over P.states s (lost_layer P s e) l))
        (λ e. omega (arith, value_safe P s e))
        (true_or_false (lost P s))

  pub least_solution : LeastSolution P
  least_solution = record { solves = solves; least = least }
