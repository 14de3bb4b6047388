-- When a round is over and its marked states become known, what of its walk came before them is a walk under way with the new known
-- set. Each marked state was reached from place `low` of the queue or a later one, so no command taken before that place has a marked
-- outcome.
use mathlib.Core.Path.{◌≡◌, sym, ◌∙◌, ap}
use mathlib.Core.Bool.{Bool, true, false, cond, ◌||◌, or-false}
use mathlib.Core.Logic.{◌⊎◌, inl, inr, ⊎_elim}
use mathlib.Core.List.{List, Memᴰ}
use mathlib.Core.Option.{some}
use Prim.Native.Nat.{ℕ, zero, suc, ◌+◌, ◌<◌, ◌≤◌}
use native.Mathlib.Decide.{dec_lt}
use native.Mathlib.Numerals.{add-one}
use native.Mathlib.Omega.{arith}
use lib.Dec.{leb}
use lib.ListN.{get_or}
use borrow.Author.Tests.{lt-leb}
use Rattle.std.specs.Prelude.{Option as CodeOption, Some}
use Rattle.laws.specs.Entry.{entry}
use Rattle.laws.proofs.Tests.{clash, true_or_false, refute, or_cases, or_left}
use Rattle.model.specs.Plan.{Plan, Valid}
use Rattle.model.specs.Verdict.{hits}
use Rattle.model.specs.Command.{choice}
use Rattle.model.proofs.Choices.{hits_is, hits_of, misses, choice_some, choice_same}
use Rattle.model.proofs.Walks.{lands_of}
use Rattle.walks.specs.Flags.{known_in, walked_in}
use Rattle.walks.specs.Queued.{Queued}
use Rattle.walks.proofs.FlagValues.{walked_value, unwalked_value, value_walked, value_unwalked}
use Rattle.search.specs.Underway.{leads, Underway}
use Rattle.search.specs.Marks.{none_left}
use Rattle.search.specs.Walked.{Lowest}
use Rattle.search.specs.Settled.{Cut, Settled}

last_place : (q : ℕ) → 0 < q → (i : ℕ) × (i + 1 ≡ q)
last_place zero l = absurd (omega arith)
last_place (suc q) l = (q, add-one q)

-- M is the set of the marked states
module _ {P : Plan} {n : ℕ} {K M : ℕ → Bool} {a q : ℕ} {cs s u : List ℕ} (w : Underway P n K a q q cs s u) (S : Valid P)
    (count : P.states ≡ n)
    (low : ℕ) (place : low < q) (late : (x : ℕ) → x < n → M x ≡ true → low + 2 ≤ get_or s x 0) (fresh : M a ≡ false)
    {q' : ℕ} (r : Cut low q' q s u) {cs' s' : List ℕ} (d : Settled q' q M u cs s cs' s') where
  abbrev K' : ℕ → Bool
  K' y = K y || M y

  -- ---- which states stay

  -- the flags rise along the queue, so those of all places that stay are low
  below : (i : ℕ) → 0 < i → i < q' → get_or s (get_or u i 0) 0 < low + 2
  below i z k = go (dec_lt (i + 1) q')
    where
      go : Dec (i + 1 < q') → get_or s (get_or u i 0) 0 < low + 2
      go (no l) = r.last i z (omega arith)
      go (yes l) =
          let (j, e) = last_place q' r.some in
          omega (arith, w.rising i j (omega arith) (omega (arith, r.part)), r.last j (omega arith) e)

  abbrev Popped : ℕ → Type 0
  Popped y = (i : ℕ) × (q' ≤ i) × (i < q) × (get_or u i 0 ≡ y)

  unmoved : (y : ℕ) → (Popped y → ⊥) → (get_or s' y 0 ≡ get_or s y 0) × (get_or cs' y 0 ≡ get_or cs y 0)
  unmoved y out = d.kept y (λ i l m e. out (i, l, m, e))

  low_stays : low < q'
  low_stays = go (dec_lt low q')
    where
      go : Dec (low < q') → low < q'
      go (yes l) = l
      go (no l) =
          let (j, before, gone, e, t) = w.from low (omega (arith, r.some)) place in
          absurd (omega (arith, r.above low (omega arith) place))

  in_front : (i : ℕ) → i < q' → Popped (get_or u i 0) → ⊥
  in_front i k p = let (j, l, m, e) = p in omega (arith, w.queued.once j i m (omega (arith, r.part)) e)

  flag_stays : (i : ℕ) → i < q' → get_or s' (get_or u i 0) 0 ≡ get_or s (get_or u i 0) 0
  flag_stays i k = (unmoved (get_or u i 0) (in_front i k)).0

  entry_stays : (i : ℕ) → i < q' → get_or cs' (get_or u i 0) 0 ≡ get_or cs (get_or u i 0) 0
  entry_stays i k = (unmoved (get_or u i 0) (in_front i k)).1

  -- a state is at a place that goes, or it stays as it is
  sort : (y : ℕ) → y < n → Popped y ⊎ (Popped y → ⊥)
  sort y k =
      ⊎_elim reached_before (λ t. inr (λ p. let (i, l, m, e) = p in clash (rw e at (w.queued.placed i m)) t))
      (true_or_false (walked_in s y))
    where
      reached_before : walked_in s y ≡ true → Popped y ⊎ (Popped y → ⊥)
      reached_before t = let (i, m, e) = w.queued.listed y k t in go i m e (dec_lt i q')
        where
          go : (i : ℕ) → i < q → get_or u i 0 ≡ y → Dec (i < q') → Popped y ⊎ (Popped y → ⊥)
          go i m e (yes l) = inr (λ p. in_front i l (rw (← e) at p))
          go i m e (no l) = inl (i, omega arith, m, e)

  popped_flag : (y : ℕ) → Popped y → get_or s' y 0 ≡ cond (M y) 0 1
  popped_flag y p = let (i, l, m, e) = p in rw e at (d.flag i l m)

  popped_low : (y : ℕ) → Popped y → get_or s' y 0 < 2
  popped_low y p = rw (popped_flag y p) (⊎_elim (λ t. rw t (omega arith)) (λ t. rw t (omega arith)) (true_or_false (M y)))

  -- the marked states are among those that go
  unmarked : (y : ℕ) → y < n → (Popped y → ⊥) → M y ≡ false
  unmarked y k out =
      refute (M y) (λ t. let (i, m, e) = w.queued.listed y k (value_walked s y (omega (arith, late y k t))) in go t i m e (dec_lt i q'))
    where
      go : M y ≡ true → (i : ℕ) → i < q → get_or u i 0 ≡ y → Dec (i < q') → ⊥
      go t i m e (no l) = out (i, omega arith, m, e)
      go t i m e (yes l) = first (dec_lt 0 i)
        where
          first : Dec (0 < i) → ⊥
          first (yes z) = omega (arith, late y k t, rw e at (below i z l))
          first (no z) = let b : i ≡ 0 = omega arith in let is : y ≡ a = sym e ∙ ap (λ j. get_or u j 0) b ∙ w.start in clash t (rw is fresh)

  -- ---- the known set, and the commands that stay

  known_next : (y : ℕ) → y < n → known_in s' y ≡ K y || M y
  unfolding known_in
  known_next y k = ⊎_elim gone stay (sort y k)
    where
      gone : Popped y → leb (get_or s' y 0) 0 ≡ K y || M y
      gone p =
          let (i, l, m, e) = p in
          let high = walked_value s y (rw e at (w.queued.placed i m)) in
          let unknown : K y ≡ false = sym (w.known y k) ∙ lt-leb (get_or s y 0) 0 (omega arith) in
          rw (popped_flag y p, unknown) (⊎_elim (λ t. rw t) (λ t. rw t) (true_or_false (M y)))

      stay : (Popped y → ⊥) → leb (get_or s' y 0) 0 ≡ K y || M y
      stay out = rw ((unmoved y out).0, unmarked y k out, ← w.known y k) (sym (or-false (leb (get_or s y 0) 0)))

  -- where the command taken at place j leads has no marked state
  apart : (j y : ℕ) → j < low → leads P K u j y ≡ true → y < n → M y ≡ false
  apart j y k t l = refute (M y) (λ z. omega (arith, late y l z, (w.closed j y (omega arith) t).1))

  choice_stays : (j : ℕ) → j < low → choice P K (get_or u j 0) ≡ choice P K' (get_or u j 0)
  unfolding leads
  choice_stays j k =
      choice_same P K K' (get_or u j 0)
      (λ c own t. let (x, m, e) = hits_is P K (get_or u j 0) c t in hits_of P K' (get_or u j 0) c x m (or_left (K x) (M x) e))
      (λ c e. refute (hits P K' (get_or u j 0) c) (λ t. let (x, m, b) = hits_is P K' (get_or u j 0) c t in hit c e x m b))
    where
      hit : (c : ℕ) → choice P K (get_or u j 0) ≡ some c → (x : ℕ) → Memᴰ x (P.outcomes (get_or u j 0) c) → K x || M x ≡ true → ⊥
      hit c e x m b =
          let (act, own, clear) = choice_some P K (get_or u j 0) c e in
          let here : get_or u j 0 < n = w.queued.states j (omega arith) in
          let state : x < n = rw count at (S.inside (get_or u j 0) c x (rw count here) own m) in
          ⊎_elim
          (λ z. clash z (misses P K (get_or u j 0) c x clear m))
          (λ z. clash z (apart j x k (rw e (lands_of P (get_or u j 0) c x m)) state))
          (or_cases (K x) (M x) b)

  leads_stays : (j y : ℕ) → j < low → leads P K' u j y ≡ leads P K u j y
  unfolding leads
  leads_stays j y k = rw (← choice_stays j k)

  -- ---- the walk

  queued_still : Queued n q' s' u
  queued_still = record {
    states = λ i k. w.queued.states i (omega (arith, r.part));
    placed = λ i k.
        value_walked s' (get_or u i 0) (rw (flag_stays i k) (walked_value s (get_or u i 0) (w.queued.placed i (omega (arith, r.part)))));
    listed = λ y k t. ⊎_elim (λ p. absurd (omega (arith, popped_low y p, walked_value s' y t))) (there y k t) (sort y k);
    once = λ i j k m. w.queued.once i j (omega (arith, r.part)) (omega (arith, r.part));
  }
    where
      there : (y : ℕ) → y < n → walked_in s' y ≡ true → (Popped y → ⊥) → (i : ℕ) × (i < q') × (get_or u i 0 ≡ y)
      there y k t out =
          let (i, m, e) = w.queued.listed y k (value_walked s y (rw (unmoved y out).0 at (walked_value s' y t))) in go i m e (dec_lt i q')
        where
          go : (i : ℕ) → i < q → get_or u i 0 ≡ y → Dec (i < q') → (i : ℕ) × (i < q') × (get_or u i 0 ≡ y)
          go i m e (yes l) = (i, l, e)
          go i m e (no l) = absurd (out (i, omega arith, m, e))

  from_still : (i : ℕ) → 0 < i → i < q'
      → (j : ℕ) × (j < i) × (j < low) × (get_or s' (get_or u i 0) 0 ≡ j + 2) × (leads P K' u j (get_or u i 0) ≡ true)
  from_still i z k =
      let (j, before, gone, e, t) = w.from i z (omega (arith, r.part)) in
      let early : j < low = omega (arith, below i z k) in
      (j, before, early, flag_stays i k ∙ e, leads_stays j (get_or u i 0) early ∙ t)

  closed_still : (j y : ℕ) → j < low → leads P K' u j y ≡ true → (walked_in s' y ≡ true) × (get_or s' y 0 ≤ j + 2)
  closed_still j y k t =
      let (in_walk, early) = w.closed j y (omega (arith, place)) (sym (leads_stays j y k) ∙ t) in
      let out : Popped y → ⊥ = λ p. let (i, l, m, e) = p in omega (arith, rw e at (r.above i l m)) in
      let same = (unmoved y out).0 in
      (value_walked s' y (rw same (walked_value s y in_walk)), rw same early)

  pub resumed : Underway P n K' a low q' cs' s' u
  resumed = record {
    queued = queued_still;
    begun = r.some;
    ahead = omega (arith, low_stays);
    known = known_next;
    start = w.start;
    start_flag_lem = rw w.start at (flag_stays 0 r.some) ∙ w.start_flag_lem;
    from = from_still;
    closed = closed_still;
    rising = λ i j k m. rw (flag_stays i (omega arith), flag_stays j m) (w.rising i j k (omega (arith, r.part)));
    took = λ i k. entry_stays i (omega (arith, low_stays)) ∙ w.took i (omega (arith, place)) ∙ ap entry (choice_stays i k);
    blank = λ y k t.
        ⊎_elim
        (λ p. let (i, l, m, e) = p in rw e at (d.blank i l m))
        (λ out. (unmoved y out).1 ∙ w.blank y k (value_unwalked s y (rw (unmoved y out).0 at (unwalked_value s' y t))))
        (sort y k);
  }

  -- no state before that place is marked, with the new known set either
  pub resumed_clear : {low' : CodeOption ℕ} → Lowest P K low' q s u → low' ≡ Some low → (i : ℕ) → i < low → none_left P K' (get_or u i 0) ≡ false
  unfolding none_left
  resumed_clear e told i k = rw (← choice_stays i k) (refute (none_left P K (get_or u i 0)) (λ t. early t (dec_lt 0 i)))
    where
      late_flag : none_left P K (get_or u i 0) ≡ true → low + 2 ≤ get_or s (get_or u i 0) 0
      late_flag t =
          let (v, is_v, high) = e.each i (omega (arith, place)) t in
          let same : v ≡ low = cc in
          rw (← same) high

      early : none_left P K (get_or u i 0) ≡ true → Dec (0 < i) → ⊥
      early t (yes z) =
          let (j, before, gone, f, b) = w.from i z (omega (arith, place)) in omega (arith, late_flag t)
      early t (no z) =
          let o : i ≡ 0 = omega arith in
          let is : get_or u i 0 ≡ a = ap (λ j. get_or u j 0) o ∙ w.start in
          omega (arith, rw is at (late_flag t), w.start_flag_lem)
