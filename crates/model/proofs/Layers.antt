-- Layers grow and settle, and what lost and rank are: the states that some layer holds, and the first such layer.
use mathlib.Core.Path.{◌≡◌, refl}
use mathlib.Core.Bool.{true, false}
use mathlib.Core.Logic.{◌⊎◌, inl, inr, ⊎_elim, ◌↔◌}
use mathlib.Core.Option.{Option, none, some}
use Prim.Native.Nat.{ℕ, zero, suc, ◌<◌, ◌≤◌}
use native.Mathlib.Omega.{arith}
use Rattle.laws.specs.Sets.{found, grow}
use Rattle.laws.proofs.Tests.{clash, true_or_false, refute}
use Rattle.laws.proofs.Sets.{lowest_some, lowest_none, not_before, is_some, found_is, found_none, many_lt}
use Rattle.laws.proofs.Grow.{Monotone, grow_step, grow_add, grow_first, grow_upto, some_still, settled, closed, steps_bound}
use Rattle.model.specs.Plan.{Plan, failing, active, Valid}
use Rattle.model.specs.Verdict.{forced, layer, rank, lost, safe}
use Rattle.model.specs.Command.{choice, chosen}
use Rattle.model.proofs.StateKinds.{active_is, active_stands}
use Rattle.model.proofs.Choices.{hits_is, hits_of, forced_is, forced_of, choice_some, choice_none}

module _ (P : Plan) where
  pub layer_step : (k s : ℕ) → layer P (suc k) s ≡ true → (layer P k s ≡ true) ⊎ (forced P (layer P k) s ≡ true)
  layer_step = grow_step (forced P) (failing P)

  pub not_failing : (k s : ℕ) → layer P k s ≡ false → failing P s ≡ false
  not_failing k s e = refute (failing P s) (λ t. clash (grow_first (forced P) (failing P) k s t) e)

  pub not_forced : (k s : ℕ) → layer P (suc k) s ≡ false → forced P (layer P k) s ≡ false
  not_forced k s e = refute (forced P (layer P k) s) (λ t. clash (grow_add (forced P) (failing P) k s t) e)

  -- ---- ranks

  pub rank_bound : (s r : ℕ) → rank P s ≡ some r → r ≤ P.states
  unfolding rank
  rank_bound s r e = omega (arith, (lowest_some (λ k. layer P k s) (suc P.states) r e).0)

  -- the layer of a state's rank holds it, and none before does
  pub rank_some : (s r : ℕ) → rank P s ≡ some r → (layer P r s ≡ true) × ((k : ℕ) → k < r → layer P k s ≡ false)
  unfolding rank
  rank_some s r e = let t = lowest_some (λ k. layer P k s) (suc P.states) r e in (t.1, t.2)

  pub lost_rank : (s : ℕ) → lost P s ≡ true → (r : ℕ) × (rank P s ≡ some r)
  unfolding lost
  lost_rank s e = found_is (rank P s) e

  pub rank_safe : (s : ℕ) → rank P s ≡ none → lost P s ≡ false
  unfolding lost found
  rank_safe s e = rw e

  -- lost is to be held by the last layer that is looked at
  pub lost_layer : (s : ℕ) → lost P s ≡ true → layer P P.states s ≡ true
  lost_layer s e =
      let (r, q) = lost_rank s e in
      grow_upto (forced P) (failing P) r P.states s (rank_bound s r q) (rank_some s r q).0

  last_lost : (s : ℕ) → layer P P.states s ≡ true → lost P s ≡ true
  unfolding lost rank
  last_lost s e = ⊎_elim (λ t. t) unheld (true_or_false (lost P s))
    where
      unheld : lost P s ≡ false → lost P s ≡ true
      unheld t = clash e (lowest_none (λ k. layer P k s) (suc P.states) (found_none (rank P s) t) P.states (omega arith))

  module _ (S : Valid P) where
    -- a larger set forces no fewer states
    pub forced_more : Monotone P.states (forced P)
    forced_more K L h s l e =
        let (act, hit) = forced_is P K s e in
        forced_of P L s act (λ c m.
        let (x, out, k) = hits_is P K s c (hit c m) in
        hits_of P L s c x out (h x (S.inside s c x l m out) k))

    -- some layer up to the n-th adds nothing
    pub layers_settle : (j : ℕ) × (j ≤ P.states) × ((s : ℕ) → s < P.states → layer P (suc j) s ≡ true → layer P j s ≡ true)
    layers_settle = some_still (forced P) (failing P) P.states forced_more

    -- a state that any layer holds is lost
    pub layer_lost : (k s : ℕ) → s < P.states → layer P k s ≡ true → lost P s ≡ true
    layer_lost k s l e = last_lost s (settled (forced P) (failing P) P.states forced_more k s l e)

    pub lost_iff_layer : (s : ℕ) → s < P.states → (lost P s ≡ true) ↔ ((k : ℕ) × (layer P k s ≡ true))
    lost_iff_layer s l = (λ e. (P.states, lost_layer s e), λ h. layer_lost h.0 s l h.1)

    -- the rank is no later than any layer that holds the state
    pub layer_rank : (k s : ℕ) → s < P.states → layer P k s ≡ true → (r : ℕ) × (r ≤ k) × (rank P s ≡ some r)
    layer_rank k s l e =
        let (r, q) = lost_rank s (layer_lost k s l e) in
        (r, not_before (λ i. layer P i s) r k (rank_some s r q).1 e, q)

    -- where a layer holds a state, the plan has a failing one
    some_failing : (k s : ℕ) → s < P.states → layer P k s ≡ true → (x : ℕ) × (x < P.states) × (failing P x ≡ true)
    unfolding grow
    some_failing zero s l e = (s, l, e)
    some_failing (suc k) s l e = ⊎_elim (some_failing k s l) (λ f.
        let (act, hit) = forced_is P (layer P k) s f in
        let own = (active_is P s act).1 in
        let (x, out, held) = hits_is P (layer P k) s 0 (hit 0 own) in
        some_failing k x (S.inside s 0 x l own out) held)
        (layer_step k s e)

    -- layer 0 holds a state and every further one up to the rank adds one, so the rank is below n
    pub rank_below : (s r : ℕ) → s < P.states → rank P s ≡ some r → r < P.states
    rank_below s r l e =
        let (in_r, new) = rank_some s r e in
        let (x, m, f) = some_failing r s l in_r in
        omega (
          arith,
          steps_bound (forced P) (failing P) P.states forced_more r s l in_r new,
          many_lt (λ _. false) (failing P) P.states (λ i k t. clash t refl) x m refl f,
        )

    -- ---- lost is what failing and forced make of it

    pub failing_lost : (s : ℕ) → s < P.states → failing P s ≡ true → lost P s ≡ true
    unfolding grow
    failing_lost = layer_lost 0

    pub safe_stands : (s : ℕ) → s < P.states → lost P s ≡ false → failing P s ≡ false
    safe_stands s l e = refute (failing P s) (λ t. clash (failing_lost s l t) e)

    pub forced_lost : (s : ℕ) → s < P.states → forced P (lost P) s ≡ true → lost P s ≡ true
    forced_lost s l e =
        last_lost s
        (closed (forced P) (failing P) P.states forced_more s l
        (forced_more (lost P) (layer P P.states) (λ x m. lost_layer x) s l e))

    pub lost_cases : (s : ℕ) → s < P.states → lost P s ≡ true → (failing P s ≡ true) ⊎ (forced P (lost P) s ≡ true)
    unfolding grow
    lost_cases s l e = go P.states (lost_layer s e)
      where
        go : (k : ℕ) → layer P k s ≡ true → (failing P s ≡ true) ⊎ (forced P (lost P) s ≡ true)
        go zero h = inl h
        go (suc k) h = ⊎_elim (go k) (λ t. inr (forced_more (layer P k) (lost P) (layer_lost k) s l t)) (layer_step k s h)

    -- a safe active state has a command with no lost outcome
    pub safe_takes : (s : ℕ) → s < P.states → active P s ≡ true → lost P s ≡ false → (c : ℕ) × (choice P (lost P) s ≡ some c)
    safe_takes s l a e =
        is_some (choice P (lost P) s)
        (λ q. clash (forced_lost s l (forced_of P (lost P) s a (choice_none P (lost P) s a q))) e)

    -- an active state that is lost is forced
    pub lost_forced : (s : ℕ) → s < P.states → active P s ≡ true → lost P s ≡ true → forced P (lost P) s ≡ true
    lost_forced s l a e = ⊎_elim (λ f. clash f (active_stands P s a)) (λ t. t) (lost_cases s l e)

    -- so at a lost state every command has a lost outcome, and none is left to choose
    pub chosen_choice : (s : ℕ) → s < P.states → chosen P s ≡ choice P (lost P) s
    unfolding chosen safe
    chosen_choice s l = ⊎_elim (λ e. rw e (none_left e (choice P (lost P) s) refl)) (λ e. rw e) (true_or_false (lost P s))
      where
        none_left : lost P s ≡ true → (o : Option ℕ) → choice P (lost P) s ≡ o → none ≡ o
        none_left e none q = refl
        none_left e (some c) q =
            let (a, m, out) = choice_some P (lost P) s c q in
            clash ((forced_is P (lost P) s (lost_forced s l a e)).1 c m) out
