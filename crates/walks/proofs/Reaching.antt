-- One state taken into a walk: it is left as it is, or two stores make it the last of the queue.
use mathlib.Core.Path.{◌≡◌, refl, sym, ◌∙◌, ap}
use mathlib.Core.Bool.{Bool, true, false, cond, and-false}
use mathlib.Core.Logic.{⊎_elim}
use mathlib.Core.List.{List}
use Prim.Native.Nat.{ℕ, ◌+◌, ◌<◌, ◌≤◌}
use native.Mathlib.Decide.{ℕ_discrete}
use native.Mathlib.Omega.{arith}
use lib.Dec.{eqb}
use lib.ListN.{length, get_or, set, length-set}
use lib.Seq.{get_or-set_same, get_or-set_other}
use borrow.Author.Tests.{eqb-true, eqb-false, eq-eqb}
use Rattle.laws.proofs.Tests.{clash, true_or_false, refute}
use Rattle.laws.proofs.Stores.{entry_after}
use Rattle.walks.specs.Flags.{walked_in, new_in}
use Rattle.walks.specs.Queued.{Queued}
use Rattle.walks.specs.Spread.{Spread}
use Rattle.walks.proofs.FlagValues.{walked_value, value_walked, value_unwalked, new_value}
use Rattle.walks.proofs.Room.{queued_room}
use Rattle.walks.proofs.Spreads.{spread_none}

-- state x, of which the flag r was read
module _ {n q : ℕ} {s u : List ℕ} (L : Queued n q s u) (x : ℕ) (l : x < n) (ls : n ≤ length s) (lu : n ≤ length u) (mark : ℕ)
    (high : 2 ≤ mark)
    (r : ℕ) (e : r ≡ get_or s x 0) where
  abbrev One : ℕ → Bool
  One y = eqb y x

  -- it is reached already, or known
  pub reach_old : (r ≡ 1 → ⊥) → Spread n q One mark s u q s u
  reach_old h =
      spread_none mark L One
      (λ y. refute (new_in s One y) (λ t. let (f, z) = new_value s y One t in h (e ∙ ap (λ i. get_or s i 0) (sym (eqb-true y x z)) ∙ f)))

  -- it is new
  module _ (h : r ≡ 1) where
    out : walked_in s x ≡ false
    out = value_unwalked s x (omega arith)

    pub reach_room : q < n
    reach_room = queued_room L x l out

    flag_after : (y : ℕ) → get_or (set s x mark) y 0 ≡ cond (eqb y x) mark (get_or s y 0)
    flag_after y = entry_after s x mark y (omega arith)

    old_flag : (y : ℕ) → eqb y x ≡ false → get_or (set s x mark) y 0 ≡ get_or s y 0
    old_flag y z = flag_after y ∙ rw z

    still : (y : ℕ) → walked_in s y ≡ true → walked_in (set s x mark) y ≡ true
    still y t =
        value_walked (set s x mark) y
        (rw (flag_after y) (⊎_elim (λ z. rw z high) (λ z. rw z (walked_value s y t)) (true_or_false (eqb y x))))

    now_in : walked_in (set s x mark) x ≡ true
    now_in = value_walked (set s x mark) x (rw (flag_after x) (rw (eq-eqb x x refl) high))

    place_after : (i : ℕ) → get_or (set u q x) i 0 ≡ cond (eqb i q) x (get_or u i 0)
    place_after i = entry_after u q x i (omega (arith, reach_room))

    last_place : get_or (set u q x) q 0 ≡ x
    last_place = get_or-set_same u q x 0 (omega (arith, reach_room))

    old_place : (i : ℕ) → i < q → get_or (set u q x) i 0 ≡ get_or u i 0
    old_place i k = get_or-set_other u q i x 0 (λ z. omega arith)

    -- of an entry of the queue: it is x, or it was there before
    at_queue : (Q : ℕ → Type 0) (i : ℕ) → i < q + 1 → Q x → ((j : ℕ) → j < q → Q (get_or u j 0)) → Q (get_or (set u q x) i 0)
    at_queue Q i k a b =
        rw (place_after i) (⊎_elim (λ t. rw t a) (λ t. rw t (b i (omega (arith, eqb-false i q t)))) (true_or_false (eqb i q)))

    other : (i : ℕ) → i < q → get_or u i 0 ≡ x → ⊥
    other i k z = clash (rw z at (L.placed i k)) out

    once_more : (i j : ℕ) → i < q + 1 → j < q + 1 → Dec (i ≡ q) → Dec (j ≡ q) → get_or (set u q x) i 0 ≡ get_or (set u q x) j 0 → i ≡ j
    once_more i j k m (yes a) (yes b) z = a ∙ sym b
    once_more i j k m (yes a) (no b) z =
        absurd (other j (omega (arith, b)) (sym (old_place j (omega (arith, b))) ∙ sym z ∙ rw a last_place))
    once_more i j k m (no a) (yes b) z = absurd (other i (omega (arith, a)) (sym (old_place i (omega (arith, a))) ∙ z ∙ rw b last_place))
    once_more i j k m (no a) (no b) z =
        L.once i j (omega (arith, a)) (omega (arith, b)) (sym (old_place i (omega (arith, a))) ∙ z ∙ old_place j (omega (arith, b)))

    listed_still : (y : ℕ) → y < n → walked_in s y ≡ true → (i : ℕ) × (i < q + 1) × (get_or (set u q x) i 0 ≡ y)
    listed_still y k t = let (i, m, z) = L.listed y k t in (i, omega arith, old_place i m ∙ z)

    queued_more : Queued n (q + 1) (set s x mark) (set u q x)
    queued_more = record {
      states = λ i k. at_queue (λ z. z < n) i k l L.states;
      placed = λ i k. at_queue (λ z. walked_in (set s x mark) z ≡ true) i k now_in (λ j m. still (get_or u j 0) (L.placed j m));
      listed = λ y k t.
          ⊎_elim
          (λ z. (q, omega arith, last_place ∙ sym (eqb-true y x z)))
          (λ z. listed_still y k (value_walked s y (rw (old_flag y z) at (walked_value (set s x mark) y t))))
          (true_or_false (eqb y x));
      once = λ i j k m z. once_more i j k m (ℕ_discrete i q) (ℕ_discrete j q) z;
    }

    new_is : (y : ℕ) → new_in s One y ≡ eqb y x
    unfolding new_in
    new_is y =
        ⊎_elim (λ z. rw z (rw (eqb-true y x z) (rw (sym e ∙ h)))) (λ z. rw z (and-false (eqb (get_or s y 0) 1))) (true_or_false (eqb y x))

    -- after the two stores
    pub reach_new : (s' u' : List ℕ) → s' ≡ set s x mark → u' ≡ set u q x → Spread n q One mark s u (q + 1) s' u'
    reach_new s' u' p p' = rw (p, p') (record {
      queued = queued_more;
      flagged = λ y. flag_after y ∙ rw (new_is y);
      more = omega arith;
      kept = old_place;
      added = λ i k m. let z : i ≡ q = omega arith in new_is (get_or (set u q x) i 0) ∙ eq-eqb (get_or (set u q x) i 0) x (rw z last_place);
      all = λ y t. (q, omega arith, omega arith, last_place ∙ sym (eqb-true y x (sym (new_is y) ∙ t)));
      after = λ i k. get_or-set_other u q i x 0 (λ z. omega arith);
      same_flags = length-set s x mark;
      same_queue = length-set u q x;
    })
