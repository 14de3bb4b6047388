-- What the test of a command's outcomes answers, and what is named at a fault: a lost outcome of the practice, and the lowest; and how the
-- line of a state tells it.
use mathlib.Core.Path.{◌≡◌, refl, sym, ap, ◌∙◌}
use mathlib.Core.Bool.{Bool, true, false}
use mathlib.Core.Logic.{◌↔◌}
use mathlib.Core.List.{List, [], ◌∷◌, ◌++◌, Memᴰ, append_assoc}
use mathlib.Core.Option.{Option, none, some}
use Prim.Native.Nat.{ℕ, ◌<◌, ◌≤◌}
use native.Mathlib.Decide.{dec_lt}
use native.Mathlib.Omega.{arith}
use lib.ListN.{get_or, drop}
use borrow.Author.Tests.{ltb-true}
use Rattle.laws.specs.Sets.{found}
use Rattle.laws.specs.Entry.{FFFF, entry, from_entry}
use Rattle.laws.proofs.Tests.{clash, refute, and_both}
use Rattle.laws.proofs.Sets.{found_none}
use Rattle.laws.proofs.EntryFound.{from_entry_lem}
use Rattle.laws.proofs.Least.{least_some, least_none, least_eq}
use Rattle.model.specs.Plan.{Plan, Valid, has_practice}
use Rattle.model.specs.Verdict.{hit, hits, LowestHit, lost, safe}
use Rattle.model.specs.Practice.{practice_hit, fault_outcome, fault}
use Rattle.model.specs.File.{max_states}
use Rattle.model.specs.Listing.{decimal, fault_sign, line, state_line}
use Rattle.model.proofs.Numerals.{decimal_inj}
use Rattle.model.proofs.PracticeHits.{fault_words}

module _ (P : Plan) (K : ℕ → Bool) (s c : ℕ) where
  pub hit_lowest : (x : ℕ) → (hit P K s c ≡ some x) ↔ LowestHit P K s c x
  unfolding hit
  hit_lowest x = (there, back)
    where
      there : hit P K s c ≡ some x → LowestHit P K s c x
      there e =
          let (m, t, low) = least_some K (P.outcomes s c) x e in
          record { outcome = m; inside = t; lowest = λ y h n. refute (K y) (λ k. absurd (omega (arith, low y n k))) }

      back : LowestHit P K s c x → hit P K s c ≡ some x
      back q = least_eq K (P.outcomes s c) (some x) (q.outcome, q.inside, λ y m t. not_below y m t (dec_lt y x))
        where
          not_below : (y : ℕ) → Memᴰ y (P.outcomes s c) → K y ≡ true → Dec (y < x) → x ≤ y
          not_below y m t (yes h) = clash t (q.lowest y h m)
          not_below y m t (no h) = omega arith

  pub hit_none : (hit P K s c ≡ none) ↔ ((x : ℕ) → Memᴰ x (P.outcomes s c) → K x ≡ false)
  unfolding hit
  hit_none = (least_none K (P.outcomes s c), least_eq K (P.outcomes s c) none)

module _ (P : Plan) (s : ℕ) where
  -- a fault is safe and has a practice
  fault_parts : fault P s ≡ true → (safe P s ≡ true) × (has_practice P s ≡ true)
  fault_parts e =
      let (a, b) = and_both (safe P s) _ (sym (fault_words P s) ∙ e) in
      (a, (and_both (has_practice P s) (hits P (lost P) s (P.practice s)) b).0)

  pub fault_given : fault P s ≡ true → P.practice s < P.commands s
  unfolding has_practice
  fault_given e = ltb-true _ _ (fault_parts e).1

  -- what is named there, and elsewhere
  pub at_fault : fault P s ≡ true → fault_outcome P s ≡ hit P (lost P) s (P.practice s)
  unfolding fault_outcome practice_hit
  at_fault e = let (a, b) = fault_parts e in rw (a, b)

  pub no_fault : fault P s ≡ false → fault_outcome P s ≡ none
  unfolding fault
  no_fault e = found_none (fault_outcome P s) e

  pub fault_named : (x : ℕ) → (fault_outcome P s ≡ some x) ↔ ((fault P s ≡ true) × LowestHit P (lost P) s (P.practice s) x)
  unfolding fault found
  fault_named x = (
    λ e.
        let f : fault P s ≡ true = ap found e in
        (f, (hit_lowest P (lost P) s (P.practice s) x).0 (sym (at_fault f) ∙ e)),
    λ (f, q). at_fault f ∙ (hit_lowest P (lost P) s (P.practice s) x).1 q,
  )

  -- ---- in print

  -- no sign of a fault that has an outcome is a dot
  pub fault_unprinted : (fault_sign (fault_outcome P s) ≡ 46 ∷ []) ↔ (fault P s ≡ false)
  unfolding fault fault_sign found
  fault_unprinted = (there (fault_outcome P s), λ e. ap fault_sign (no_fault e))
    where
      there : (o : Option ℕ) → fault_sign o ≡ 46 ∷ [] → found o ≡ false
      there none e = refl
      there (some y) e = let z : ◌≡◌ {A = ℕ} 33 46 = ap (λ (w : List ℕ). get_or w 0 0) e in absurd (omega arith)

-- a line ends in its last word
line_ends : (w : List ℕ) (ws : List (List ℕ)) (z : List ℕ)
    → (front : List ℕ) × (line (w ∷ (ws ++ (z ∷ []))) ≡ front ++ 32 ∷ (z ++ 10 ∷ []))
unfolding line
line_ends w [] z = (w, refl)
line_ends w (v ∷ ws) z =
    let (front, e) = line_ends v ws z in
    (w ++ 32 ∷ front, ap (λ (r : List ℕ). w ++ 32 ∷ r) e ∙ sym (append_assoc w (32 ∷ front) (32 ∷ (z ++ 10 ∷ []))))

pub last_word : (P : Plan) (s : ℕ) → (front : List ℕ) × (state_line P s ≡ front ++ 32 ∷ (fault_sign (fault_outcome P s) ++ 10 ∷ []))
unfolding state_line
last_word P s = line_ends (decimal s) (_ ∷ _ ∷ _ ∷ _ ∷ _ ∷ []) (fault_sign (fault_outcome P s))

-- it is a state
module _ (P : Plan) (valid : Valid P) (s : ℕ) (l : s < P.states) where
  pub named_inside : (y : ℕ) → fault_outcome P s ≡ some y → y < P.states
  named_inside y e =
      let (f, q) = (fault_named P s y).0 e in
      valid.inside s (P.practice s) y l (fault_given P s f) q.outcome

  -- so an entry holds it
  pub named_entry : P.states < FFFF → from_entry (entry (fault_outcome P s)) ≡ fault_outcome P s
  named_entry few = from_entry_lem (fault_outcome P s) (λ y e. omega (arith, named_inside y e))

-- in print: of a plan of few states, whose numbers are printed apart
module _ (P : Plan) (valid : Valid P) (few : P.states ≤ max_states) (s x : ℕ) (l : s < P.states) (h : x < P.states) where
  -- a sign that names a number is that number's
  same_sign : (o : Option ℕ) → ((y : ℕ) → o ≡ some y → y < P.states) → fault_sign o ≡ 33 ∷ decimal x → o ≡ some x
  unfolding fault_sign
  same_sign none below e = let z : ◌≡◌ {A = ℕ} 46 33 = ap (λ (w : List ℕ). get_or w 0 0) e in absurd (omega arith)
  same_sign (some y) below e =
      let digits : decimal y ≡ decimal x = ap (drop 1) e in
      ap some (decimal_inj y x (omega (arith, few, below y refl)) (omega (arith, few)) digits)

  pub fault_printed : (fault_sign (fault_outcome P s) ≡ 33 ∷ decimal x) ↔ ((fault P s ≡ true) × LowestHit P (lost P) s (P.practice s) x)
  unfolding fault_sign
  fault_printed = (
    λ e. (fault_named P s x).0 (same_sign (fault_outcome P s) (named_inside P valid s l) e),
    λ q. ap fault_sign ((fault_named P s x).1 q),
  )
