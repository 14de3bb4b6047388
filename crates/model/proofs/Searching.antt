-- The search from one start: it ends, within as many rounds as there are ordinary states with commands, and answers what deciding does.
use mathlib.Core.Path.{◌≡◌, refl, sym, ◌∙◌, ap}
use mathlib.Core.Bool.{Bool, true, false, not, ◌&&◌}
use mathlib.Core.Logic.{⊎_elim}
use mathlib.Core.Option.{none, some}
use Prim.Native.Nat.{ℕ, zero, suc, ◌<◌, ◌≤◌}
use native.Mathlib.Omega.{arith}
use borrow.Author.Tests.{not-true}
use Rattle.laws.specs.Sets.{lowest, how_many, grow}
use Rattle.laws.proofs.Tests.{clash, true_or_false, refute, and_both, and_join, or_cases, or_left, or_right}
use Rattle.laws.proofs.Sets.{Part, every_at, every_of, lowest_some, lowest_none, not_before, is_some, many_bound, many_all, settles}
use Rattle.laws.proofs.Grow.{grow_more, grow_add, grow_first, grow_all}
use Rattle.model.specs.Plan.{Plan, Valid, failing, active}
use Rattle.model.specs.Verdict.{lost}
use Rattle.model.specs.Command.{chosen}
use Rattle.model.specs.Search.{reached, marked, known, without_marks, ends, before, Result, at_once, in_rounds, search, actives}
use Rattle.model.proofs.StateKinds.{Kind, fails, rests, acts, kind_of, active_stands, bound_is}
use Rattle.model.proofs.Choices.{forced_is, choice_idle}
use Rattle.model.proofs.Layers.{forced_more, failing_lost, forced_lost, lost_cases, chosen_choice}
use Rattle.model.proofs.Walks.{start_reached}
use Rattle.model.proofs.Rounds.{marked_is, reached_unknown, reached_safe, reached_same}

-- what the answer A of a search from a says, beside the definitions of deciding
pub record Answers (P : Plan) (a : ℕ) (A : Result) : Type 0 where
  pub verdict : A.lost ≡ lost P a
  pub inside : lost P a ≡ false → (s : ℕ) → A.reached s ≡ true → s < P.states
  pub clear : lost P a ≡ false → (s : ℕ) → A.reached s ≡ true → failing P s ≡ false
  pub commands : lost P a ≡ false → (s : ℕ) → A.reached s ≡ true → A.command s ≡ chosen P s
  pub start : lost P a ≡ false → A.command a ≡ chosen P a
  pub few : A.rounds ≤ actives P

-- ---- the known sets

module _ (P : Plan) (a : ℕ) where
  known_grows : (j x : ℕ) → known P a j x ≡ true → known P a (suc j) x ≡ true
  known_grows = grow_more _ _

  known_fails : (j x : ℕ) → failing P x ≡ true → known P a j x ≡ true
  known_fails = grow_first (λ K. marked P K a) (failing P)

  pub unmarked_is : (j : ℕ) → without_marks P a j ≡ true → (x : ℕ) → x < P.states → marked P (known P a j) a x ≡ false
  unfolding without_marks
  unmarked_is j e x l = not-true (marked P (known P a j) a x) (every_at (λ s. not (marked P (known P a j) a s)) P.states e x l)

  unmarked_of : (j : ℕ) → ((x : ℕ) → x < P.states → marked P (known P a j) a x ≡ false) → without_marks P a j ≡ true
  unfolding without_marks
  unmarked_of j h = every_of (λ s. not (marked P (known P a j) a s)) P.states (λ x l. ap not (h x l))

  -- only lost states become known
  known_lost : Valid P → (j x : ℕ) → x < P.states → known P a j x ≡ true → lost P x ≡ true
  known_lost S j x l e =
      grow_all (λ K. marked P K a) (failing P) (λ y. y < P.states → lost P y ≡ true) (λ y t m. failing_lost P S y m t)
      (λ K below y t m. forced_lost P S y m (forced_more P S K (lost P) (λ z k u. below z u k) y m (marked_is P K a y t).1))
      j x e l

  -- the active states that are known after j rounds
  counted : ℕ → ℕ → Bool
  counted j x = active P x && known P a j x

  counted_is : (j x : ℕ) → counted j x ≡ true → (active P x ≡ true) × (known P a j x ≡ true)
  unfolding counted
  counted_is j x e = and_both (active P x) (known P a j x) e

  counted_of : (j x : ℕ) → active P x ≡ true → known P a j x ≡ true → counted j x ≡ true
  unfolding counted
  counted_of j x o e = and_join (active P x) (known P a j x) o e

-- ---- a start with commands: some round ends the search

module _ (P : Plan) (S : Valid P) (a : ℕ) (in_plan : a < P.states) (act : active P a ≡ true) where
  abbrev Ended : Type 0
  Ended = (i : ℕ) × (i < actives P) × (ends P a i ≡ true)

  by_known : (j : ℕ) → j ≤ actives P → known P a j a ≡ true → Ended
  unfolding grow ends
  by_known zero l e = clash e (active_stands P a act)
  by_known (suc i) l e = (i, omega arith, or_right (without_marks P a i) (known P a (suc i) a) e)

  -- a round that adds no active state has no marks, unless the start is known
  by_still : (j : ℕ) → j < actives P → Part P.states (counted P a (suc j)) (counted P a j) → Ended
  unfolding ends
  by_still j l h =
      ⊎_elim
      (by_known j (omega arith))
      (λ e. (j, l, or_left (without_marks P a j) (known P a (suc j) a) (calm e)))
      (true_or_false (known P a j a))
    where
      again : known P a j a ≡ false → (x : ℕ) → x < P.states → marked P (known P a j) a x ≡ true → ⊥
      again e x m t =
          let (w, f) = marked_is P (known P a j) a x t in
          let k = grow_add (λ K. marked P K a) (failing P) j x t in
          let o = (forced_is P (known P a j) x f).0 in
          clash (counted_is P a j x (h x m (counted_of P a (suc j) x o k))).1
          (reached_unknown P S (known P a j) a in_plan (known_fails P a j) e x w).1

      calm : known P a j a ≡ false → without_marks P a j ≡ true
      calm e = unmarked_of P a j (λ x m. refute (marked P (known P a j) a x) (again e x m))

  -- where as many active states are known as there are, the start is
  by_full : actives P ≤ how_many (counted P a (actives P)) P.states → Ended
  by_full h =
      let n = actives P in
      let all = many_all (counted P a n) (active P) P.states (λ x l e. (counted_is P a n x e).0) (omega (arith, bound_is P)) in
      by_known n (omega arith) (counted_is P a n a (all a in_plan act)).1

  some_ends : Ended
  some_ends =
      ⊎_elim (λ r. by_still r.0 r.1 r.2) (λ c. by_full (omega (arith, c))) (settles P.states (counted P a) grows (actives P))
    where
      grows : (k : ℕ) → Part P.states (counted P a k) (counted P a (suc k))
      grows k x l e = let (o, t) = counted_is P a k x e in counted_of P a (suc k) x o (known_grows P a k x t)

  -- the search ends, and `before` is the first round that ends it
  pub last_round : lowest (ends P a) P.states ≡ some (before P a)
  unfolding before
  last_round = let (j, q) = is_some (lowest (ends P a) P.states) endless in rw q
    where
      endless : lowest (ends P a) P.states ≡ none → ⊥
      endless q =
          let (i, l, e) = some_ends in
          clash e (lowest_none (ends P a) P.states q i (omega (arith, bound_is P, many_bound (active P) P.states)))

  -- so no more rounds are walked than there are active states
  pub rounds_bound : suc (before P a) ≤ actives P
  rounds_bound =
      let (i, l, e) = some_ends in
      let (m, t, least) = lowest_some (ends P a) P.states (before P a) last_round in
      let le = not_before (ends P a) (before P a) i least e in
      omega arith

  -- ---- what the last round answers

  abbrev Last : ℕ → Bool
  Last = known P a (before P a)

  abbrev End : ℕ → Bool
  End = known P a (suc (before P a))

  module _ (open_start : End a ≡ false) where
    -- a start that is not known at the last round's end: that round has no marks
    no_marks : (x : ℕ) → x < P.states → marked P Last a x ≡ false
    unfolding ends
    no_marks x l =
        ⊎_elim (λ h. unmarked_is P a (before P a) h x l) (λ h. clash h open_start)
        (or_cases (without_marks P a (before P a)) (End a) (lowest_some (ends P a) P.states (before P a) last_round).1)

    unknown : Last a ≡ false
    unknown = refute (Last a) (λ t. clash (known_grows P a (before P a) a t) open_start)

    last_inside : (s : ℕ) → reached P Last a s ≡ true → (s < P.states) × (Last s ≡ false)
    last_inside = reached_unknown P S Last a in_plan (known_fails P a (before P a)) unknown

    last_clear : (s : ℕ) → reached P Last a s ≡ true → failing P s ≡ false
    last_clear s w = refute (failing P s) (λ f. clash (known_fails P a (before P a) s f) (last_inside s w).1)

    last_safe : lost P a ≡ false
    last_safe = reached_safe P S Last a in_plan (known_fails P a (before P a)) unknown no_marks a (start_reached P Last a)

    last_same : (s : ℕ) → reached P Last a s ≡ true → (in_rounds P a (before P a)).command s ≡ chosen P s
    unfolding in_rounds
    last_same s w =
        rw (open_start, w)
        (reached_same P S Last a in_plan (known_fails P a (before P a)) unknown no_marks (known_lost P a S (before P a)) s w)

  in_rounds_lem : Answers P a (in_rounds P a (before P a))
  unfolding in_rounds
  in_rounds_lem = record {
    verdict = verdict (End a) refl;
    inside = λ kept s w. (last_inside (opened kept) s w).0;
    clear = λ kept s w. last_clear (opened kept) s w;
    commands = λ kept s w. last_same (opened kept) s w;
    start = λ kept. last_same (opened kept) a (start_reached P Last a);
    few = rounds_bound;
  }
    where
      opened : lost P a ≡ false → End a ≡ false
      opened kept = refute (End a) (λ t. clash (known_lost P a S (suc (before P a)) a in_plan t) kept)

      verdict : (b : Bool) → End a ≡ b → b ≡ lost P a
      verdict true e = sym (known_lost P a S (suc (before P a)) a in_plan e)
      verdict false e = sym (last_safe e)

-- ---- any start

module _ (P : Plan) (S : Valid P) (a : ℕ) (in_plan : a < P.states) where
  at_once_lem : active P a ≡ false → (b : Bool) → lost P a ≡ b → Answers P a (at_once b)
  unfolding at_once
  at_once_lem idle b e = record {
    verdict = sym e;
    inside = λ kept s w. clash w refl;
    clear = λ kept s w. clash w refl;
    commands = λ kept s w. clash w refl;
    start = λ kept. sym (chosen_choice P S a in_plan ∙ choice_idle P (lost P) a idle);
    few = omega arith;
  }

  pub resting_safe : failing P a ≡ false → active P a ≡ false → lost P a ≡ false
  resting_safe f idle =
      refute (lost P a)
      (λ t. ⊎_elim (λ h. clash h f) (λ h. clash (forced_is P (lost P) a h).0 idle) (lost_cases P S a in_plan t))

  pub search_answers : Answers P a (search P a)
  unfolding search
  search_answers = go (kind_of P a S in_plan)
    where
      go : Kind P a → Answers P a (search P a)
      go (fails f t i) = rw f (at_once_lem i true (failing_lost P S a in_plan f))
      go (rests f t i) = rw (f, t) (at_once_lem i false (resting_safe f i))
      go (acts f t i) = rw (f, t) (in_rounds_lem P S a in_plan i)
