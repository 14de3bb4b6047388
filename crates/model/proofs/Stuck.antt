-- Which states have rank 0, and all that counting as failing makes of a stuck state.
use mathlib.Core.Path.{◌≡◌, refl}
use mathlib.Core.Bool.{Bool, true, false, not, cond, ◌&&◌}
use mathlib.Core.Logic.{◌⊎◌, inr, ◌↔◌}
use mathlib.Core.List.{[], ◌∷◌}
use mathlib.Core.Option.{none, some}
use Prim.Native.Nat.{ℕ, suc, ◌<◌}
use native.Mathlib.Omega.{arith}
use borrow.Author.Tests.{le-ltb}
use Rattle.laws.specs.Sets.{found, grow}
use Rattle.laws.proofs.Tests.{clash, refute, cond_same}
use Rattle.laws.proofs.Grow.{grow_first}
use Rattle.model.specs.Plan.{Plan, Valid, ordinary, active, stuck, failing, resting, has_practice}
use Rattle.model.specs.Run.{no_moves, present}
use Rattle.model.specs.Verdict.{rank, lost, safe}
use Rattle.model.specs.Command.{chosen}
use Rattle.model.specs.Practice.{practice_hits, practice_fails, fault_outcome, fault, mark}
use Rattle.model.specs.Search.{reached, known, before, at_once, in_rounds, search}
use Rattle.model.specs.Stuck.{StuckState}
use Rattle.model.specs.Listing.{
  last_digit,
  digits,
  decimal,
  line,
  kind_letter,
  verdict_letter,
  number_or_dash,
  practice_letter,
  fault_sign,
  state_line,
}
use Rattle.model.proofs.StateKinds.{failing_of, failing_is, stuck_is, active_is}
use Rattle.model.proofs.Choices.{choice_idle}
use Rattle.model.proofs.Layers.{rank_some, layer_rank, failing_lost}
use Rattle.model.proofs.Searching.{search_answers, resting_safe}
use Rattle.model.proofs.Contests.{turn_fails}

-- ---- ranks

module _ (P : Plan) (S : Valid P) (s : ℕ) (l : s < P.states) where
  pub failing_ranked : failing P s ≡ true → rank P s ≡ some 0
  unfolding grow
  failing_ranked f =
      let (r, le, e) = layer_rank P S 0 s l f in
      let zero : r ≡ 0 = omega arith in
      rw (← zero) e

  pub rank_zero : (rank P s ≡ some 0) ↔ ((P.kind s ≡ 1) ⊎ ((P.kind s ≡ 0) × (P.commands s ≡ 0)))
  unfolding grow
  rank_zero = (λ e. failing_is P s (rank_some P s 0 e).0, λ h. failing_ranked (failing_of P s h))

  pub rest_safe : P.kind s ≡ 2 → safe P s ≡ true
  unfolding safe failing active ordinary
  rest_safe e = rw (resting_safe P S s l (rw e) (rw e))

  -- ---- a stuck state

  module _ (e : stuck P s ≡ true) where
    fails : failing P s ≡ true
    fails = failing_of P s (inr (stuck_is P s e))

    is_lost : lost P s ≡ true
    is_lost = failing_lost P S s l fails

    no_practice : has_practice P s ≡ false
    unfolding has_practice
    no_practice = rw (stuck_is P s e).1 (le-ltb (P.practice s) 0 (omega arith))

    practice_fails_lem : practice_fails P s ≡ true
    unfolding practice_fails
    practice_fails_lem = grow_first (practice_hits P) (failing P) P.states s fails

    -- what is lost has no command, and nothing is named at it
    unchosen : chosen P s ≡ none
    unfolding chosen safe
    unchosen = rw is_lost

    unnamed : fault_outcome P s ≡ none
    unfolding fault_outcome safe
    unnamed = rw is_lost

    marked_one : mark P s ≡ 1
    unfolding mark fault found
    marked_one = rw (practice_fails_lem, unnamed)

    idle : active P s ≡ false
    idle = refute (active P s) (λ t. omega (arith, (active_is P s t).1, (stuck_is P s e).1))

    -- no walk takes a command at it
    untaken : (a : ℕ) → (search P a).command s ≡ none
    unfolding search at_once in_rounds
    untaken a = go (failing P a) (resting P a)
      where
        go : (f r : Bool) → (cond f (at_once true) (cond r (at_once false) (in_rounds P a (before P a)))).command s ≡ none
        go true r = refl
        go false true = refl
        go false false =
            let K = known P a (before P a) in
            cond_same (not (known P a (suc (before P a)) a) && reached P K a s) (choice_idle P K s idle)

    pub stuck_line : state_line P s
        ≡ line (decimal s ∷ (111 ∷ []) ∷ (76 ∷ []) ∷ (48 ∷ []) ∷ (45 ∷ []) ∷ (70 ∷ []) ∷ (46 ∷ []) ∷ [])
    unfolding state_line kind_letter verdict_letter number_or_dash practice_letter fault_sign decimal digits last_digit
    stuck_line = rw ((stuck_is P s e).0, is_lost, failing_ranked fails, unchosen, practice_fails_lem, unnamed)

    pub stuck_state : StuckState P s
    unfolding present grow search at_once
    stuck_state = record {
      ranked = failing_ranked fails;
      unchosen = unchosen;
      ends_runs = λ a w q. rw q fails;
      no_move = λ m can. omega (arith, can.issued, (stuck_is P s e).1);
      fails_at_once = λ ρ. (record { run = no_moves; is_run = tt; under = tt; fails = fails }, refl);
      marked = marked_one;
      counted = (is_lost, no_practice);
      known_at_first = λ a. fails;
      avoided = λ a m h. refute ((search P a).reached s) (λ w.
          let A = search_answers P S a m in
          clash fails (A.clear (rw (← A.verdict) h) s w));
      untaken = untaken;
      searched = (rw fails, rw fails, λ x. rw fails);
      not_held = λ k. turn_fails P s k fails;
    }
