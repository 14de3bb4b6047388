-- The keeper's turn is held exactly where no layer up to the moves left has the state: at safe states and at lost ones of a higher rank. So
-- it is with fewer moves too, and that is where some commanding rule survives all runs of so many moves.
use mathlib.Core.Path.{◌≡◌, refl, sym, ◌∙◌, ap}
use mathlib.Core.Bool.{true, false, not}
use mathlib.Core.Logic.{◌⊎◌, inl, inr, ⊎_elim, ◌↔◌}
use mathlib.Core.Option.{Option, none, some}
use Prim.Native.Nat.{ℕ, zero, suc, ◌<◌, ◌≤◌}
use native.Mathlib.Omega.{arith}
use lib.Dec.{ltb}
use borrow.Author.Tests.{not-true, ltb-true, ltb-false}
use Rattle.laws.specs.Sets.{every, exists, grow}
use Rattle.laws.proofs.Tests.{clash, true_or_false, refute, same_test}
use Rattle.laws.proofs.Sets.{found_none}
use Rattle.laws.proofs.Grow.{grow_first, grow_add, grow_more, grow_upto}
use Rattle.laws.proofs.Contrary.{each_not, exists_not}
use Rattle.model.specs.Plan.{Plan, Valid, failing, active, resting}
use Rattle.model.specs.Run.{moves}
use Rattle.model.specs.Rule.{Rule, Commanding, Survives, positional}
use Rattle.model.specs.Verdict.{hits, forced, layer, rank, lost, safe}
use Rattle.model.specs.Command.{chosen}
use Rattle.model.specs.Contest.{works_turn, keeper_turn, Exceeds}
use Rattle.model.proofs.StateKinds.{kind_of, Kind, fails, rests, acts}
use Rattle.model.proofs.Choices.{hits_any, forced_is}
use Rattle.model.proofs.Layers.{layer_step, forced_more, rank_some, rank_safe, layer_rank}
use Rattle.model.proofs.Deciding.{
  rank_within,
  chosen_commanding,
  chosen_holds,
  delaying,
  delaying_commanding,
  delaying_survives,
}

-- ---- the keeper's turn, case by case

module _ (P : Plan) (s : ℕ) where
  pub turn_fails : (k : ℕ) → failing P s ≡ true → keeper_turn P k s ≡ false
  unfolding keeper_turn
  turn_fails zero f = rw f
  turn_fails (suc k) f = rw f

  pub turn_rests : (k : ℕ) → failing P s ≡ false → resting P s ≡ true → keeper_turn P k s ≡ true
  unfolding keeper_turn
  turn_rests zero f r = rw f
  turn_rests (suc k) f r = rw (f, r)

  pub turn_last : (k : ℕ) → k ≡ 0 → failing P s ≡ false → keeper_turn P k s ≡ true
  unfolding keeper_turn
  turn_last k z f = rw (z, f)

  pub turn_tries : (k : ℕ) → failing P s ≡ false → resting P s ≡ false
      → keeper_turn P (suc k) s ≡ exists (works_turn P (keeper_turn P k) s) (P.commands s)
  unfolding keeper_turn
  turn_tries k f r = rw (f, r)

module _ (P : Plan) (S : Valid P) where
  -- what a layer adds to the failing states is forced by the layers before it
  layer_from : (k s : ℕ) → s < P.states → failing P s ≡ false → layer P (suc k) s ≡ true → forced P (layer P k) s ≡ true
  unfolding grow
  layer_from zero s l f e = ⊎_elim (λ t. clash t f) (λ t. t) (layer_step P zero s e)
  layer_from (suc k) s l f e =
      ⊎_elim
      (λ t. forced_more P S (layer P k) (layer P (suc k)) (λ x m. grow_more (forced P) (failing P) k x) s l (layer_from k s l f t))
      (λ t. t) (layer_step P (suc k) s e)

  module _ (k s : ℕ) (l : s < P.states) where
    -- at an active state
    layer_next : failing P s ≡ false → active P s ≡ true → layer P (suc k) s ≡ every (hits P (layer P k) s) (P.commands s)
    unfolding forced
    layer_next f a =
        same_test (layer P (suc k) s) (forced P (layer P k) s) (layer_from k s l f) (grow_add (forced P) (failing P) k s) ∙ rw a

    module _ (below : (x : ℕ) → x < P.states → keeper_turn P k x ≡ not (layer P k x)) where
      -- the works' turn is held where the command has no outcome in the layers so far
      works_free : (c : ℕ) → c < P.commands s → works_turn P (keeper_turn P k) s c ≡ not (hits P (layer P k) s c)
      unfolding works_turn
      works_free c m =
          each_not (keeper_turn P k) (layer P k) (P.outcomes s c) (λ x o. below x (S.inside s c x l m o))
          ∙ ap not (sym (hits_any P (layer P k) s c))

      next_turn : keeper_turn P (suc k) s ≡ not (layer P (suc k) s)
      next_turn = go (kind_of P s S l)
        where
          go : Kind P s → keeper_turn P (suc k) s ≡ not (layer P (suc k) s)
          go (fails f r a) = turn_fails P s (suc k) f ∙ sym (ap not (grow_first (forced P) (failing P) (suc k) s f))
          go (rests f r a) =
              turn_rests P s (suc k) f r
              ∙ sym (ap not (refute (layer P (suc k) s) (λ e. clash (forced_is P (layer P k) s (layer_from k s l f e)).0 a)))
          go (acts f r a) =
              turn_tries P s k f r
              ∙ exists_not (works_turn P (keeper_turn P k) s) (hits P (layer P k) s) (P.commands s) works_free
              ∙ sym (ap not (layer_next f a))

  pub turn_layer : (k s : ℕ) → s < P.states → keeper_turn P k s ≡ not (layer P k s)
  unfolding keeper_turn grow
  turn_layer zero s l = refl
  turn_layer (suc k) s l = next_turn k s l (turn_layer k)

  -- rule M7
  pub turn_fewer : (j k s : ℕ) → s < P.states → j ≤ k → keeper_turn P k s ≡ true → keeper_turn P j s ≡ true
  turn_fewer j k s l h e =
      turn_layer j s l
      ∙ ap not (refute (layer P j s)
      (λ t. clash (grow_upto (forced P) (failing P) j k s h t) (not-true (layer P k s) (sym (turn_layer k s l) ∙ e))))

  module _ (k s : ℕ) (l : s < P.states) where
    -- a held turn: the state has no rank, or a higher one
    held_late : keeper_turn P k s ≡ true → (rank P s ≡ none) ⊎ Exceeds (rank P s) k
    held_late e = go (rank P s) refl
      where
        out : layer P k s ≡ false
        out = not-true (layer P k s) (sym (turn_layer k s l) ∙ e)

        later : (r : ℕ) → rank P s ≡ some r → k < r
        later r q =
            ⊎_elim (ltb-true k r)
            (λ t. clash (grow_upto (forced P) (failing P) r k s (ltb-false k r t) (rank_some P s r q).0) out)
            (true_or_false (ltb k r))

        go : (o : Option ℕ) → rank P s ≡ o → (o ≡ none) ⊎ Exceeds o k
        go none q = inl refl
        go (some r) q = inr (r, refl, later r q)

    -- held, or lost with a rank that does not exceed the moves
    held_or : (keeper_turn P k s ≡ true) ⊎ ((r : ℕ) × (rank P s ≡ some r) × (r ≤ k))
    held_or =
        ⊎_elim
        (λ t. let (r, h, q) = layer_rank P S k s l t in inr (r, q, h))
        (λ t. inl (turn_layer k s l ∙ rw t))
        (true_or_false (layer P k s))

    pub contest_ranked : (keeper_turn P k s ≡ true) ↔ ((rank P s ≡ none) ⊎ Exceeds (rank P s) k)
    contest_ranked = (held_late, λ h. ⊎_elim (λ e. e) (λ (r, q, low). absurd (apart r q low h)) held_or)
      where
        apart : (r : ℕ) → rank P s ≡ some r → r ≤ k → (rank P s ≡ none) ⊎ Exceeds (rank P s) k → ⊥
        apart r q low = ⊎_elim (λ e. let z : ◌≡◌ {A = ℕ} 0 1 = cc in omega arith) (λ (t, p, high). let z : r ≡ t = cc in omega arith)

    -- rule M6
    pub contest_exactly : (keeper_turn P k s ≡ true) ↔ ((safe P s ≡ true) ⊎ Exceeds (rank P s) k)
    unfolding safe lost
    contest_exactly = (
      λ e. ⊎_elim (λ t. inl (ap not (rank_safe P s t))) inr (contest_ranked.0 e),
      λ h. contest_ranked.1 (⊎_elim (λ e. inl (found_none (rank P s) (not-true (lost P s) e))) inr h),
    )

    -- rule M8
    pub contest_rules : (keeper_turn P k s ≡ true) ↔ ((ρ : Rule) × Commanding P s ρ × Survives P s ρ (λ w. moves w ≤ k))
    contest_rules = (
      λ e. ⊎_elim (λ t. holding (rank_safe P s t)) delayed (held_late e),
      λ (ρ, C, v). ⊎_elim (λ e. e) (λ (r, q, low). absurd (caught ρ C v r q low)) held_or,
    )
      where
        holding : lost P s ≡ false → (ρ : Rule) × Commanding P s ρ × Survives P s ρ (λ w. moves w ≤ k)
        holding e = (
          positional (chosen P) s,
          chosen_commanding P S (chosen P) (λ t m. refl) s l e,
          λ w i u m. chosen_holds P S (chosen P) (λ t n. refl) s l e w i u,
        )

        delayed : Exceeds (rank P s) k → (ρ : Rule) × Commanding P s ρ × Survives P s ρ (λ w. moves w ≤ k)
        delayed (r, q, h) = (
          delaying P s r,
          delaying_commanding P s r,
          λ w i u m. delaying_survives P s r q (omega arith) w i u (omega arith),
        )

        caught : (ρ : Rule) → Commanding P s ρ → Survives P s ρ (λ w. moves w ≤ k) → (r : ℕ) → rank P s ≡ some r → r ≤ k → ⊥
        caught ρ C v r q low =
            let (f, few) = rank_within P s ρ C r q in
            clash f.fails (v f.run f.is_run f.under (omega arith))
