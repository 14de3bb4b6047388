-- States taken into a walk: none of them, one lot after another, and what is reached then.
use mathlib.Core.Path.{◌≡◌, refl, sym, ◌∙◌, ap}
use mathlib.Core.Bool.{Bool, true, false, cond, ◌&&◌, ◌||◌}
use mathlib.Core.Logic.{⊎_elim}
use mathlib.Core.List.{List}
use Prim.Native.Nat.{ℕ, ◌<◌, ◌≤◌}
use native.Mathlib.Decide.{dec_lt}
use native.Mathlib.Omega.{arith}
use lib.Dec.{eqb, leb}
use lib.ListN.{get_or}
use borrow.Author.Tests.{lt-leb}
use Rattle.laws.proofs.Tests.{clash, true_or_false, refute, same_test, or_cases, or_left, or_right}
use Rattle.walks.specs.Flags.{known_in, walked_in, new_in}
use Rattle.walks.specs.Queued.{Queued}
use Rattle.walks.specs.Spread.{Spread}
use Rattle.walks.proofs.FlagValues.{unknown_value, walked_value, unwalked_value, value_walked, new_value, value_new, value_old}

-- an empty walk
pub queued_none : {n : ℕ} {s : List ℕ} (u : List ℕ) → ((x : ℕ) → x < n → get_or s x 0 < 2) → Queued n 0 s u
queued_none {s = s} u h = record {
  states = λ i l. absurd (omega arith);
  placed = λ i l. absurd (omega arith);
  listed = λ x l t. absurd (omega (arith, h x l, walked_value s x t));
  once = λ i j l m. absurd (omega arith);
}

-- no state of X is new
pub spread_none : {n q : ℕ} {s u : List ℕ} (mark : ℕ) → Queued n q s u → (X : ℕ → Bool) → ((y : ℕ) → new_in s X y ≡ false)
    → Spread n q X mark s u q s u
spread_none mark L X h = record {
  queued = L;
  flagged = λ y. rw (h y);
  more = omega arith;
  kept = λ i l. refl;
  added = λ i l m. absurd (omega arith);
  all = λ y t. clash t (h y);
  after = λ i l. refl;
  same_flags = refl;
  same_queue = refl;
}

-- another set that says the same
pub spread_as : {n q q' : ℕ} {X Y : ℕ → Bool} {mark : ℕ} {s u s' u' : List ℕ} → ((y : ℕ) → X y ≡ Y y) → Spread n q X mark s u q' s' u'
    → Spread n q Y mark s u q' s' u'
unfolding new_in
spread_as {X = X} {Y} {s = s} h w = record {
  queued = w.queued;
  flagged = λ y. w.flagged y ∙ rw (h y);
  more = w.more;
  kept = w.kept;
  added = λ i l m. sym (same _) ∙ w.added i l m;
  all = λ y t. w.all y (same y ∙ t);
  after = w.after;
  same_flags = w.same_flags;
  same_queue = w.same_queue;
}
  where
    same : (y : ℕ) → new_in s X y ≡ new_in s Y y
    same y = ap (λ b. eqb (get_or s y 0) 1 && b) (h y)

-- ---- what is reached then

module _ {n q q' : ℕ} {X : ℕ → Bool} {mark : ℕ} {s u s' u' : List ℕ} (v : Spread n q X mark s u q' s' u') where
  pub flag_new : (y : ℕ) → new_in s X y ≡ true → get_or s' y 0 ≡ mark
  flag_new y t = v.flagged y ∙ rw t

  pub flag_old : (y : ℕ) → new_in s X y ≡ false → get_or s' y 0 ≡ get_or s y 0
  flag_old y t = v.flagged y ∙ rw t

  pub flag_cases {ℓ} : (Q : ℕ → Type ℓ) (y : ℕ) → (new_in s X y ≡ true → Q mark) → (new_in s X y ≡ false → Q (get_or s y 0)) → Q (get_or s' y 0)
  flag_cases Q y a b = ⊎_elim (λ t. rw (flag_new y t) (a t)) (λ t. rw (flag_old y t) (b t)) (true_or_false (new_in s X y))

  pub flag_reached : (y : ℕ) → walked_in s y ≡ true → get_or s' y 0 ≡ get_or s y 0
  flag_reached y t = flag_old y (value_old s y X (λ e. omega (arith, walked_value s y t)))

  pub flag_past : (y : ℕ) → n ≤ y → get_or s' y 0 ≡ get_or s y 0
  flag_past y h = flag_old y (refute (new_in s X y) (λ t. let (i, l, m, e) = v.all y t in omega (arith, v.queued.states i m)))

  module _ (high : 2 ≤ mark) where
    pub spread_known : (y : ℕ) → known_in s' y ≡ known_in s y
    unfolding known_in
    spread_known y =
        flag_cases (λ f. leb f 0 ≡ leb (get_or s y 0) 0) y
        (λ t. rw (new_value s y X t).0 (two mark high)) (λ t. refl)
      where
        two : (m : ℕ) → 2 ≤ m → leb m 0 ≡ leb 1 0
        two m h = lt-leb m 0 (omega arith)

    grows : (y : ℕ) → walked_in s y ≡ true → walked_in s' y ≡ true
    grows y t = value_walked s' y (rw (flag_reached y t) (walked_value s y t))

    -- the states of X are none that no walk enters
    pub spread_walked : ((y : ℕ) → X y ≡ true → known_in s y ≡ false) → (y : ℕ) → walked_in s' y ≡ walked_in s y || X y
    spread_walked free y = same_test (walked_in s' y) (walked_in s y || X y) there back
      where
        there : walked_in s' y ≡ true → walked_in s y || X y ≡ true
        there t =
            ⊎_elim
            (λ a. or_right (walked_in s y) (X y) (new_value s y X a).1)
            (λ a. or_left (walked_in s y) (X y) (value_walked s y (rw (flag_old y a) at (walked_value s' y t))))
            (true_or_false (new_in s X y))

        entered : X y ≡ true → walked_in s' y ≡ true
        entered t =
            ⊎_elim
            (grows y)
            (λ a.
            let one : get_or s y 0 ≡ 1 = omega (arith, unwalked_value s y a, unknown_value s y (free y t)) in
            value_walked s' y (rw (flag_new y (value_new s y X one t)) high))
            (true_or_false (walked_in s y))

        back : walked_in s y || X y ≡ true → walked_in s' y ≡ true
        back t = ⊎_elim (grows y) entered (or_cases (walked_in s y) (X y) t)

-- ---- one lot after another

module _ {n q₁ q₂ q₃ : ℕ} {X Y : ℕ → Bool} {mark : ℕ} {s₁ u₁ s₂ u₂ s₃ u₃ : List ℕ} (high : 2 ≤ mark)
    (v : Spread n q₁ X mark s₁ u₁ q₂ s₂ u₂) (w : Spread n q₂ Y mark s₂ u₂ q₃ s₃ u₃) where
  abbrev Either : ℕ → Bool
  Either y = X y || Y y

  -- what is new to the second lot was new before the first
  late : (y : ℕ) → new_in s₂ Y y ≡ true → new_in s₁ Either y ≡ true
  late y t =
      let (e, h) = new_value s₂ y Y t in
      value_new s₁ y Either
      (flag_cases v (λ f. f ≡ 1 → get_or s₁ y 0 ≡ 1) y (λ a z. absurd (omega arith)) (λ a z. z) e)
      (or_right (X y) (Y y) h)

  soon : (y : ℕ) → new_in s₁ X y ≡ true → new_in s₁ Either y ≡ true
  soon y t = let (e, h) = new_value s₁ y X t in value_new s₁ y Either e (or_left (X y) (Y y) h)

  split : (y : ℕ) → new_in s₁ X y ≡ false → new_in s₁ Either y ≡ new_in s₂ Y y
  split y a = same_test (new_in s₁ Either y) (new_in s₂ Y y) there (late y)
    where
      there : new_in s₁ Either y ≡ true → new_in s₂ Y y ≡ true
      there t =
          let (e, h) = new_value s₁ y Either t in
          value_new s₂ y Y (flag_old v y a ∙ e)
          (⊎_elim (λ b. clash (value_new s₁ y X e b) a) (λ b. b) (or_cases (X y) (Y y) h))

  pub spread_then : Spread n q₁ Either mark s₁ u₁ q₃ s₃ u₃
  spread_then = record {
    queued = w.queued;
    flagged = λ y. ⊎_elim (early y) (λ a. rw (split y a) (w.flagged y ∙ rw (flag_old v y a))) (true_or_false (new_in s₁ X y));
    more = omega (arith, v.more, w.more);
    kept = λ i l. w.kept i (omega (arith, v.more)) ∙ v.kept i l;
    added = λ i l m. placed i l m (dec_lt i q₂);
    all = λ y t.
        ⊎_elim (there y) (λ a. let (i, l, m, e) = w.all y (sym (split y a) ∙ t) in (i, omega (arith, v.more), m, e))
        (true_or_false (new_in s₁ X y));
    after = λ i l. w.after i l ∙ v.after i (omega (arith, w.more));
    same_flags = w.same_flags ∙ v.same_flags;
    same_queue = w.same_queue ∙ v.same_queue;
  }
    where
      early : (y : ℕ) → new_in s₁ X y ≡ true → get_or s₃ y 0 ≡ cond (new_in s₁ Either y) mark (get_or s₁ y 0)
      early y a =
          rw (soon y a)
          (flag_cases w (λ f. f ≡ mark) y (λ b. refl) (λ b. flag_new v y a))

      placed : (i : ℕ) → q₁ ≤ i → i < q₃ → Dec (i < q₂) → new_in s₁ Either (get_or u₃ i 0) ≡ true
      placed i l m (yes k) = rw (w.kept i k) (soon (get_or u₂ i 0) (v.added i l k))
      placed i l m (no k) = late (get_or u₃ i 0) (w.added i (omega arith) m)

      there : (y : ℕ) → new_in s₁ X y ≡ true → (i : ℕ) × (q₁ ≤ i) × (i < q₃) × (get_or u₃ i 0 ≡ y)
      there y a = let (i, l, m, e) = v.all y a in (i, l, omega (arith, w.more), w.kept i m ∙ e)
