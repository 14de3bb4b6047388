-- A walk under way: how it begins, and that it stays one where it goes on from the next state of the queue.
use mathlib.Core.Path.{◌≡◌, refl, sym, ◌∙◌}
use mathlib.Core.Bool.{Bool, true, false, cond, ◌||◌}
use mathlib.Core.Logic.{⊎_elim}
use mathlib.Core.List.{List}
use Prim.Native.Nat.{ℕ, ◌+◌, ◌<◌, ◌≤◌}
use native.Mathlib.Decide.{dec_lt}
use native.Mathlib.Omega.{arith}
use lib.Dec.{eqb}
use lib.ListN.{length, get_or, set}
use borrow.Author.Tests.{eqb-true, eq-eqb}
use Rattle.laws.specs.Entry.{FFFF, entry}
use Rattle.laws.specs.Filled.{Filled}
use Rattle.laws.proofs.Tests.{clash, true_or_false, refute, or_left, or_right}
use Rattle.laws.proofs.Sets.{below_suc}
use Rattle.laws.proofs.Stores.{entry_after}
use Rattle.model.specs.Plan.{Plan, Valid}
use Rattle.model.specs.Command.{choice}
use Rattle.model.specs.Search.{lands}
use Rattle.model.proofs.Choices.{misses, choice_some}
use Rattle.model.proofs.Walks.{lands_is}
use Rattle.walks.specs.Flags.{known_in, walked_in, new_in}
use Rattle.walks.specs.Spread.{Spread}
use Rattle.walks.proofs.FlagValues.{unknown_value, walked_value, value_walked, new_value, value_new}
use Rattle.walks.proofs.Spreads.{flag_new, flag_old, flag_cases, flag_reached, spread_known, spread_walked}
use Rattle.search.specs.Underway.{leads, Underway}
use Rattle.search.specs.Walked.{Expanded}
use Rattle.search.proofs.SameSets.{choice_over}

-- the start is reached, over flags of no earlier walk
module _ (P : Plan) {n : ℕ} {K : ℕ → Bool} (a : ℕ) (l : a < n) {s₀ u₀ : List ℕ} (flags : (x : ℕ) → x < n → get_or s₀ x 0 < 2)
    (same : (y : ℕ) → y < n → known_in s₀ y ≡ K y) (fresh : K a ≡ false)
    {q : ℕ} {c₀ cs s u : List ℕ} (v : Spread n 0 (λ y. eqb y a) 2 s₀ u₀ q s u) (f : Filled n (λ _. FFFF) c₀ cs) where
  start_new : new_in s₀ (λ y. eqb y a) a ≡ true
  start_new = value_new s₀ a (λ y. eqb y a) (omega (arith, flags a l, unknown_value s₀ a (same a l ∙ fresh))) (eq-eqb a a refl)

  alone : (i : ℕ) → i < q → get_or u i 0 ≡ a
  alone i k = eqb-true (get_or u i 0) a (new_value s₀ (get_or u i 0) (λ y. eqb y a) (v.added i (omega arith) k)).1

  some : 0 < q
  some = let (i, z, k, e) = v.all a start_new in omega arith

  pub underway_start : Underway P n K a 0 q cs s u
  underway_start = record {
    queued = v.queued;
    begun = some;
    ahead = omega arith;
    known = λ y k. spread_known v (omega arith) y ∙ same y k;
    start = alone 0 some;
    start_flag_lem = flag_new v a start_new;
    from = λ i z k. absurd (omega (arith, v.queued.once i 0 k some (alone i k ∙ sym (alone 0 some))));
    closed = λ j y k. absurd (omega arith);
    rising = λ i j k m. absurd (omega (arith, v.queued.once i j (omega arith) m (alone i (omega arith) ∙ sym (alone j m))));
    took = λ i k. absurd (omega arith);
    blank = λ x k t. f.low x k;
  }

module _ {P : Plan} {n : ℕ} {K : ℕ → Bool} {a h q : ℕ} {cs s u : List ℕ} (w : Underway P n K a h q cs s u) where
  -- no flag is higher than the place that is next
  pub flag_low : (i : ℕ) → i < q → get_or s (get_or u i 0) 0 ≤ h + 2
  flag_low i k = go (dec_lt 0 i)
    where
      go : Dec (0 < i) → get_or s (get_or u i 0) 0 ≤ h + 2
      go (yes z) = let (j, m, b, e, t) = w.from i z k in omega arith
      go (no z) = let e : i ≡ 0 = omega arith in rw (e, w.start, w.start_flag_lem) (omega arith)

  module _ (S : Valid P) (count : P.states ≡ n) where
    -- the next state of the queue, x, is gone on from
    module _ (k : h < q) (x : ℕ) (p : x ≡ get_or u h 0) {q' : ℕ} {cs' s' u' : List ℕ} (in_cs : x < length cs)
        (cs_is : cs' ≡ set cs x (entry (choice P K x))) (v : Spread n q (lands P x (choice P K x)) (h + 2) s u q' s' u') where
      abbrev X : ℕ → Bool
      X = lands P x (choice P K x)

      state : x < n
      state = rw p (w.queued.states h k)

      inside : (y : ℕ) → X y ≡ true → y < n
      inside y t =
          let (c, e, m) = lands_is P x y (choice P K x) t in
          rw count at (S.inside x c y (rw count state) (choice_some P K x c e).1 m)

      -- a command taken has no known outcome
      free : (y : ℕ) → X y ≡ true → known_in s y ≡ false
      free y t =
          let (c, e, m) = lands_is P x y (choice P K x) t in
          w.known y (inside y t) ∙ misses P K x c y (choice_some P K x c e).2 m

      walked : (y : ℕ) → walked_in s' y ≡ walked_in s y || X y
      walked = spread_walked v (omega arith) free

      still : (y : ℕ) → walked_in s y ≡ true → walked_in s' y ≡ true
      still y t = walked y ∙ or_left (walked_in s y) (X y) t

      place_flag : (i : ℕ) → i < q → get_or s' (get_or u' i 0) 0 ≡ get_or s (get_or u i 0) 0
      place_flag i m = rw (v.kept i m) (flag_reached v (get_or u i 0) (w.queued.placed i m))

      new_flag : (i : ℕ) → q ≤ i → i < q' → get_or s' (get_or u' i 0) 0 ≡ h + 2
      new_flag i l m = flag_new v (get_or u' i 0) (v.added i l m)

      here : get_or u' h 0 ≡ x
      here = v.kept h k ∙ sym p

      leads_same : (j y : ℕ) → j < q → leads P K u' j y ≡ leads P K u j y
      unfolding leads
      leads_same j y m = rw (v.kept j m)

      leads_here : (y : ℕ) → leads P K u' h y ≡ X y
      unfolding leads
      leads_here y = rw here

      from_next : (i : ℕ) → 0 < i → i < q' → Dec (i < q)
          → (j : ℕ) × (j < i) × (j < h + 1) × (get_or s' (get_or u' i 0) 0 ≡ j + 2) × (leads P K u' j (get_or u' i 0) ≡ true)
      from_next i z m (yes old) =
          let (j, before, gone, e, t) = w.from i z old in
          (j, before, omega arith, place_flag i old ∙ e, rw (v.kept i old) (leads_same j (get_or u i 0) (omega arith) ∙ t))
      from_next i z m (no new) =
          let lands_there = (new_value s (get_or u' i 0) X (v.added i (omega arith) m)).1 in
          (h, omega arith, omega arith, new_flag i (omega arith) m, leads_here (get_or u' i 0) ∙ lands_there)

      old_closed : (y j : ℕ) → j < h → leads P K u' j y ≡ true → (walked_in s' y ≡ true) × (get_or s' y 0 ≤ j + 2)
      old_closed y j m t =
          let (in_walk, low) = w.closed j y m (sym (leads_same j y (omega arith)) ∙ t) in
          (still y in_walk, rw (flag_reached v y in_walk) low)

      new_closed : (y : ℕ) → leads P K u' h y ≡ true → (walked_in s' y ≡ true) × (get_or s' y 0 ≤ h + 2)
      new_closed y t =
          let lands_there : X y ≡ true = sym (leads_here y) ∙ t in
          let now : walked_in s' y ≡ true = walked y ∙ or_right (walked_in s y) (X y) lands_there in
          let old : new_in s X y ≡ false → get_or s y 0 ≤ h
          + 2 = λ z. not_higher y lands_there (rw (flag_old v y z) at (walked_value s' y now)) in
          (now, flag_cases v (λ f. f ≤ h + 2) y (λ z. omega arith) old)
        where
          not_higher : (y : ℕ) → X y ≡ true → 2 ≤ get_or s y 0 → get_or s y 0 ≤ h + 2
          not_higher y in-x two =
              let (i, m, e) = w.queued.listed y (inside y in-x) (value_walked s y two) in
              rw (← e) (flag_low i m)

      rising_next : (i j : ℕ) → i < j → j < q' → Dec (i < q) → Dec (j < q) → get_or s' (get_or u' i 0) 0 ≤ get_or s' (get_or u' j 0) 0
      rising_next i j l m (yes a') (yes b) = rw (place_flag i a', place_flag j b) (w.rising i j l b)
      rising_next i j l m (yes a') (no b) = rw (place_flag i a', new_flag j (omega arith) m) (flag_low i a')
      rising_next i j l m (no a') b = rw (new_flag i (omega arith) (omega arith), new_flag j (omega arith) m) (omega arith)

      entry_at : (z : ℕ) → (eqb z x ≡ false → get_or cs z 0 ≡ entry (choice P K z)) → get_or cs' z 0 ≡ entry (choice P K z)
      entry_at z other =
          rw (cs_is, entry_after cs x (entry (choice P K x)) z in_cs)
          (⊎_elim (λ t. rw t (rw (eqb-true z x t))) (λ t. rw t (other t)) (true_or_false (eqb z x)))

      old_took : (i : ℕ) → i < h → get_or cs' (get_or u' i 0) 0 ≡ entry (choice P K (get_or u' i 0))
      old_took i m = rw (v.kept i (omega (arith, w.ahead))) (entry_at (get_or u i 0) (λ t. w.took i m))

      new_took : get_or cs' (get_or u' h 0) 0 ≡ entry (choice P K (get_or u' h 0))
      new_took = rw here (entry_at x (λ t. clash (eq-eqb x x refl) t))

      still_blank : (y : ℕ) → y < n → walked_in s' y ≡ false → cond (eqb y x) (entry (choice P K x)) (get_or cs y 0) ≡ FFFF
      still_blank y m t =
          ⊎_elim
          (λ z. clash (still y (rw (eqb-true y x z, p) (w.queued.placed h k))) t)
          (λ z. rw z (w.blank y m (refute (walked_in s y) (λ g. clash (still y g) t))))
          (true_or_false (eqb y x))

      underway_next : Underway P n K a (h + 1) q' cs' s' u'
      underway_next = record {
        queued = v.queued;
        begun = omega (arith, v.more);
        ahead = omega (arith, v.more);
        known = λ y m. spread_known v (omega arith) y ∙ w.known y m;
        start = v.kept 0 w.begun ∙ w.start;
        start_flag_lem = rw w.start at (rw (v.kept 0 w.begun) at (place_flag 0 w.begun)) ∙ w.start_flag_lem;
        from = λ i z m. from_next i z m (dec_lt i q);
        closed = λ j y m.
            below_suc (λ i. leads P K u' i y ≡ true → (walked_in s' y ≡ true) × (get_or s' y 0 ≤ i + 2)) h (old_closed y) (new_closed y) j
            (omega arith);
        rising = λ i j l m. rising_next i j l m (dec_lt i q) (dec_lt j q);
        took = λ i m. below_suc (λ j. get_or cs' (get_or u' j 0) 0 ≡ entry (choice P K (get_or u' j 0))) h old_took new_took i (omega arith);
        blank = λ y m t. rw (cs_is, entry_after cs x (entry (choice P K x)) y in_cs) (still_blank y m t);
      }

    module _ (k : h < q) (x : ℕ) (p : x ≡ get_or u h 0) (long : n ≤ length cs) {q' : ℕ} {cs' s' u' : List ℕ}
        (g : Expanded P n q x (h + 2) cs s u q' cs' s' u') where
      in_plan : x < n
      in_plan = rw p (w.queued.states h k)

      expanded_choice : choice P (known_in s) x ≡ choice P K x
      expanded_choice = choice_over P S (known_in s) K (λ y l. w.known y (rw count at l)) x (rw count in_plan)

      pub underway_expanded : Underway P n K a (h + 1) q' cs' s' u'
      underway_expanded =
          underway_next k x p (omega (arith, in_plan)) (rw expanded_choice at g.took) (rw expanded_choice at g.spreads)
