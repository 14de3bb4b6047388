-- The tally, counted from state to state.
use mathlib.Core.Path.{◌≡◌, refl, ap₂}
use mathlib.Core.Bool.{Bool, true, false, not, cond, ◌&&◌}
use mathlib.Core.List.{List, [], ◌∷◌}
use Prim.Native.Nat.{ℕ, ◌+◌, ◌<◌}
use native.Mathlib.Nat.{zero-add}
use native.Mathlib.Numerals.{add-one, one-add}
use native.Mathlib.Omega.{arith}
use lib.ListN.{get_or}
use Rattle.laws.specs.Sets.{how_many}
use Rattle.laws.proofs.Sets.{many_bound}
use Rattle.laws.proofs.Agree.{Agree, many_same}
use Rattle.model.specs.File.{max_states}
use Rattle.model.specs.Plan.{Plan, has_practice}
use Rattle.model.specs.Verdict.{lost, safe}
use Rattle.model.specs.Practice.{practice_fails, tally_row, tally_of, tally}
use Rattle.decide.specs.Verdicts.{practice_of, added, Low}

module _ (L g f : ℕ → Bool) where
  pub counted_none : ◌≡◌ {A = List (List ℕ)} ((0 ∷ 0 ∷ 0 ∷ []) ∷ (0 ∷ 0 ∷ 0 ∷ []) ∷ []) (tally_of L g f 0)
  unfolding tally_row how_many
  counted_none = refl

  -- one state more
  pub counted_next : (s : ℕ) → added (tally_of L g f s) (record { lost = L s; practice = practice_of (g s) (f s) }) ≡ tally_of L g f (s + 1)
  unfolding tally_row how_many
  counted_next s = rw (add-one s) (go (L s) (g s) (f s))
    where
      u : ℕ
      u = how_many (λ x. not (L x) && g x && not (f x)) s

      v : ℕ
      v = how_many (λ x. not (L x) && g x && f x) s

      w : ℕ
      w = how_many (λ x. not (L x) && not (g x)) s

      x : ℕ
      x = how_many (λ i. L i && g i && not (f i)) s

      y : ℕ
      y = how_many (λ i. L i && g i && f i) s

      z : ℕ
      z = how_many (λ i. L i && not (g i)) s

      go : (a b c : Bool)
          → added ((u ∷ v ∷ w ∷ []) ∷ (x ∷ y ∷ z ∷ []) ∷ []) (record { lost = a; practice = practice_of b c })
          ≡ ((cond (not a && b && not c) 1 0 + u) ∷ (cond (not a && b && c) 1 0 + v) ∷ (cond (not a && not b) 1 0 + w) ∷ [])
          ∷ ((cond (a && b && not c) 1 0 + x) ∷ (cond (a && b && c) 1 0 + y) ∷ (cond (a && not b) 1 0 + z) ∷ []) ∷ []
      go true true true = simp (zero-add, one-add, add-one)
      go true true false = simp (zero-add, one-add, add-one)
      go true false true = simp (zero-add, one-add, add-one)
      go true false false = simp (zero-add, one-add, add-one)
      go false true true = simp (zero-add, one-add, add-one)
      go false true false = simp (zero-add, one-add, add-one)
      go false false true = simp (zero-add, one-add, add-one)
      go false false false = simp (zero-add, one-add, add-one)

  -- no count is above that of the states
  pub counted_low : (s : ℕ) → s < max_states → Low (get_or (tally_of L g f s) 0 []) × Low (get_or (tally_of L g f s) 1 [])
  unfolding tally_row
  counted_low s h = (row_low (λ x. not (L x)), row_low L)
    where
      low : (k : ℕ → Bool) → how_many k s < max_states
      low k = omega (arith, many_bound k s)

      row_low : (r : ℕ → Bool) → Low (tally_row r g f s)
      row_low r = (low _, low _, low _)

-- tests that agree on the states counted
module _ (g : ℕ → Bool) (n : ℕ) (f f' : ℕ → Bool) (fails : Agree n f f') where
  row_same : (r r' : ℕ → Bool) → Agree n r r' → tally_row r g f n ≡ tally_row r' g f' n
  unfolding tally_row
  row_same r r' h =
      ap₂ (λ (a : ℕ) (l : List ℕ). a ∷ l) (many_same _ _ n (λ x l. rw (h x l, fails x l)))
      (ap₂ (λ (a : ℕ) (l : List ℕ). a ∷ l) (many_same _ _ n (λ x l. rw (h x l, fails x l)))
      (ap₂ (λ (a : ℕ) (l : List ℕ). a ∷ l) (many_same _ _ n (λ x l. rw (h x l))) refl))

  pub tally_same : (L L' : ℕ → Bool) → Agree n L L' → tally_of L g f n ≡ tally_of L' g f' n
  tally_same L L' h =
      ap₂ (λ (a : List ℕ) (t : List (List ℕ)). a ∷ t) (row_same (λ s. not (L s)) (λ s. not (L' s)) (λ x l. rw (h x l)))
      (ap₂ (λ (a : List ℕ) (t : List (List ℕ)). a ∷ t) (row_same L L' h) refl)

pub tally_is : (P : Plan) → tally_of (lost P) (has_practice P) (practice_fails P) P.states ≡ tally P
unfolding tally_row tally safe
tally_is P = refl
