-- A round is walked to its end: which states it marks, whether there are any, and whether the start is one.
use mathlib.Core.Path.{◌≡◌, sym, ◌∙◌, ap, subst}
use mathlib.Core.Bool.{Bool, true, false, not}
use mathlib.Core.Logic.{⊎_elim}
use mathlib.Core.List.{List}
use Prim.Native.Nat.{ℕ, ◌+◌, ◌<◌, ◌≤◌}
use native.Mathlib.Decide.{dec_lt}
use native.Mathlib.Omega.{arith}
use lib.Dec.{eqb}
use lib.ListN.{get_or}
use Rattle.std.specs.Prelude.{Some, None}
use Rattle.laws.specs.Sets.{found}
use Rattle.laws.specs.Entry.{FFFF, entry}
use Rattle.laws.proofs.Tests.{clash, true_or_false, refute}
use Rattle.laws.proofs.Sets.{every_of}
use Rattle.model.specs.Plan.{Plan, active}
use Rattle.model.specs.Command.{choice}
use Rattle.model.specs.Search.{marked, known, without_marks}
use Rattle.model.specs.File.{max_states}
use Rattle.model.specs.Tables.{Tables}
use Rattle.model.specs.SoundTest.{sound}
use Rattle.model.specs.Held.{plan_in}
use Rattle.model.proofs.HeldPlan.{states_held}
use Rattle.model.proofs.Searching.{unmarked_is}
use Rattle.model.proofs.Valid.{sound_valid}
use Rattle.tables.specs.Spans.{span_at}
use Rattle.choice.proofs.Taken.{few_commands}
use Rattle.walks.specs.Flags.{walked_in}
use Rattle.walks.proofs.Room.{queued_few}
use Rattle.search.specs.declared.walk.Progress.{Progress}
use Rattle.search.specs.Marks.{marked_at, none_left}
use Rattle.search.specs.Walked.{Walked}
use Rattle.search.proofs.ReadStates.{entry_none}
use Rattle.search.proofs.WalkSteps.{flag_low}
use Rattle.search.proofs.WalkEnds.{reached_is}
use Rattle.search.proofs.Lowering.{marked_left}

-- the flag of a state that was walked is an entry
module _ (T : Tables) (few : T.size.n ≤ max_states) (a j : ℕ) {r : Progress} {cs s u : List ℕ}
    (w : Walked (plan_in T) T.size.n (known (plan_in T) a j) a r cs s u) where
  pub walked_flag : (i : ℕ) → i < r.reached → get_or s (get_or u i 0) 0 ≤ max_states + 2
  walked_flag i k = omega (arith, flag_low w.done i k, queued_few w.done.queued, few)

module _ (T : Tables) (sounds : sound T ≡ true) (a j : ℕ) {r : Progress} {cs s u : List ℕ}
    (w : Walked (plan_in T) T.size.n (known (plan_in T) a j) a r cs s u) where
  abbrev P : Plan
  P = plan_in T

  abbrev K : ℕ → Bool
  K = known (plan_in T) a j

  -- ---- the marked states

  at_walked : (x : ℕ) → x < T.size.n → walked_in s x ≡ true → marked P K a x ≡ none_left P K x
  unfolding marked none_left
  at_walked x k t = rw (reached_is w.done (sound_valid T sounds) (states_held T) (omega arith) x k, t)

  at_others : (x : ℕ) → x < T.size.n → walked_in s x ≡ false → marked P K a x ≡ false
  unfolding marked
  at_others x k t = rw (reached_is w.done (sound_valid T sounds) (states_held T) (omega arith) x k, t)

  others_at : (x : ℕ) → walked_in s x ≡ false → marked_at (span_at T x) cs s x ≡ false
  unfolding marked_at
  others_at x t = rw t

  took : (x : ℕ) → x < T.size.n → walked_in s x ≡ true → get_or cs x 0 ≡ entry (choice P K x)
  took x k t = let (i, l, e) = w.done.queued.listed x k t in subst (λ y. get_or cs y 0 ≡ entry (choice P K y)) e (w.done.took i l)

  -- those that are found by their flag and their entry
  pub marked_found : (x : ℕ) → x < T.size.n → marked_at (span_at T x) cs s x ≡ marked P K a x
  marked_found x k =
      ⊎_elim
      (λ t. marked_left T sounds K x k cs s t (took x k t) ∙ sym (at_walked x k t))
      (λ t. others_at x t ∙ sym (at_others x k t))
      (true_or_false (walked_in s x))

  marked_place : (x : ℕ) → x < T.size.n → marked P K a x ≡ true → (i : ℕ) × (i < r.reached) × (get_or u i 0 ≡ x) × (none_left P K x ≡ true)
  marked_place x k t = ⊎_elim there (λ b. clash t (at_others x k b)) (true_or_false (walked_in s x))
    where
      there : walked_in s x ≡ true → (i : ℕ) × (i < r.reached) × (get_or u i 0 ≡ x) × (none_left P K x ≡ true)
      there b = let (i, l, e) = w.done.queued.listed x k b in (i, l, e, sym (at_walked x k b) ∙ t)

  -- ---- whether there are any

  pub none_marked : r.low ≡ None → without_marks P a j ≡ true
  unfolding without_marks
  none_marked e =
      every_of (λ x. not (marked P K a x)) P.states (λ x k. ap not (refute (marked P K a x) (λ t. none x (rw (states_held T) at k) t)))
    where
      none : (x : ℕ) → x < T.size.n → marked P K a x ≡ true → ⊥
      none x k t =
          let (i, l, z, b) = marked_place x k t in
          let (v, is_v, late) = w.lowest.each i l (subst (λ y. none_left P K y ≡ true) (sym z) b) in
          absurd (cc)

  module _ (low : ℕ) (is : r.low ≡ Some low) where
    -- each was reached from the lowest place or a later one
    pub marked_late : (x : ℕ) → x < T.size.n → marked P K a x ≡ true → low + 2 ≤ get_or s x 0
    marked_late x k t =
        let (i, l, e, b) = marked_place x k t in
        let (v, is_v, late) = w.lowest.each i l (subst (λ y. none_left P K y ≡ true) (sym e) b) in
        let same : v ≡ low = cc in
        subst (λ y. low + 2 ≤ get_or s y 0) e (rw (← same) late)

    pub some_marked : (low < r.reached) × (without_marks P a j ≡ false)
    some_marked =
        let (i, k, t, e) = w.lowest.one low is in
        let state : get_or u i 0 < T.size.n = w.done.queued.states i k in
        let is_marked : marked P K a (get_or u i 0) ≡ true = at_walked (get_or u i 0) state (w.done.queued.placed i k) ∙ t in (
          place i k e (dec_lt 0 i),
          refute (without_marks P a j) (λ b. clash is_marked (unmarked_is P a j b (get_or u i 0) (rw (states_held T) state))),
        )
      where
        place : (i : ℕ) → i < r.reached → get_or s (get_or u i 0) 0 ≡ low + 2 → Dec (0 < i) → low < r.reached
        place i k e (yes z) = let (l, before, gone, f, b) = w.done.from i z k in omega arith
        place i k e (no z) =
            let o : i ≡ 0 = omega arith in
            let is : get_or u i 0 ≡ a = ap (λ l. get_or u l 0) o ∙ w.done.start in
            omega (arith, rw is at e, w.done.start_flag_lem, w.done.begun)

  -- ---- how the round ends

  module _ (act : active P a ≡ true) where
    first_in : a < T.size.n
    first_in = subst (λ x. x < T.size.n) w.done.start (w.done.queued.states 0 w.done.begun)

    first_walked : walked_in s a ≡ true
    first_walked = subst (λ x. walked_in s x ≡ true) w.done.start (w.done.queued.placed 0 w.done.begun)

    start_left : none_left P K a ≡ not (found (choice P K a))
    unfolding none_left
    start_left = rw act

    pub start_told : eqb (get_or cs a 0) FFFF ≡ marked P K a a
    start_told =
        ap (λ c. eqb c FFFF) (took a first_in first_walked)
        ∙ entry_none (choice P K a) (few_commands T sounds a first_in K)
        ∙ sym (at_walked a first_in first_walked ∙ start_left)
