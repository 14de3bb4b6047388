-- The lowest place from which a marked state was reached, while the walk goes on.
use mathlib.Core.Path.{◌≡◌, refl, sym, ◌∙◌, ap}
use mathlib.Core.Bool.{Bool, true, false, ◌&&◌}
use mathlib.Core.Logic.{◌⊎◌, inl, inr, ⊎_elim}
use mathlib.Core.List.{List}
use Prim.Native.Nat.{ℕ, ◌+◌, ◌-◌, ◌<◌, ◌≤◌}
use native.Mathlib.Decide.{dec_lt}
use native.Mathlib.Omega.{arith}
use lib.ListN.{get_or}
use Rattle.std.specs.Prelude.{min, Option, Some, None}
use Rattle.laws.specs.Entry.{entry}
use Rattle.laws.proofs.Sets.{below_suc}
use Rattle.model.specs.Plan.{Plan, active}
use Rattle.model.specs.Command.{choice}
use Rattle.model.specs.Tables.{Tables}
use Rattle.model.specs.SoundTest.{sound}
use Rattle.model.specs.Held.{plan_in}
use Rattle.tables.specs.Spans.{span_at}
use Rattle.choice.proofs.Taken.{few_commands}
use Rattle.walks.specs.Flags.{walked_in}
use Rattle.search.specs.Marks.{marked_at, none_left, lower_of}
use Rattle.search.specs.Walked.{Lowest}
use Rattle.search.proofs.ReadStates.{span_active, entry_none}

-- a state that is reached is marked where no command of it is left
pub marked_left : (T : Tables) → sound T ≡ true → (K : ℕ → Bool) (x : ℕ) → x < T.size.n → (cs s : List ℕ) → walked_in s x ≡ true
    → get_or cs x 0 ≡ entry (choice (plan_in T) K x) → marked_at (span_at T x) cs s x ≡ none_left (plan_in T) K x
unfolding marked_at none_left
marked_left T sounds K x l cs s t e =
    rw (t, span_active T x l, e)
    (ap (λ (b : Bool). active (plan_in T) x && b) (entry_none (choice (plan_in T) K x) (few_commands T sounds x l K)))

-- ---- the lower of two places

lower_old : (m : Bool) (f a : ℕ) → (v : ℕ) × (lower_of m f (Some a) ≡ Some v) × (v ≤ a)
unfolding lower_of
lower_old true f a = (min (f - 2) a, refl, omega arith)
lower_old false f a = (a, refl, omega arith)

lower_new : (f : ℕ) (low : Option ℕ) → 2 ≤ f → (v : ℕ) × (lower_of true f low ≡ Some v) × (v + 2 ≤ f)
unfolding lower_of
lower_new f None h = (f - 2, refl, omega arith)
lower_new f (Some a) h = (min (f - 2) a, refl, omega arith)

lower_is : (m : Bool) (f : ℕ) (low : Option ℕ) → 2 ≤ f → (v : ℕ) → lower_of m f low ≡ Some v
    → (low ≡ Some v) ⊎ ((m ≡ true) × (f ≡ v + 2))
unfolding lower_of
lower_is true f None h v e = let z : f - 2 ≡ v = cc in inr (refl, omega arith)
lower_is true f (Some a) h v e = let z : min (f - 2) a ≡ v = cc in go z (dec_lt (f - 2) a)
  where
    go : min (f - 2) a ≡ v → Dec (f - 2 < a) → (Some a ≡ Some v) ⊎ ((true ≡ true) × (f ≡ v + 2))
    go z (yes l) = inr (refl, omega arith)
    go z (no l) = inl (ap Some (omega arith))
lower_is false f None h v e = inl e
lower_is false f (Some a) h v e = inl e

-- ---- in the walk

-- the state x at place h was gone on from, and the places before are as they were
module _ {P : Plan} {K : ℕ → Bool} {low : Option ℕ} {h : ℕ} {s u : List ℕ} (w : Lowest P K low h s u) (s' u' : List ℕ)
    (stay : (i : ℕ) → i < h → get_or u' i 0 ≡ get_or u i 0) (flag : (i : ℕ) → i < h → get_or s' (get_or u' i 0) 0 ≡ get_or s (get_or u i 0) 0)
    (x : ℕ) (is : get_or u' h 0 ≡ x) (high : 2 ≤ get_or s' x 0) (m : Bool) (left : m ≡ none_left P K x) (low' : Option ℕ)
    (e : low' ≡ lower_of m (get_or s' x 0) low) where
  -- the place i has a marked state
  abbrev Told : ℕ → Type 0
  Told i = (v : ℕ) × (low' ≡ Some v) × (v + 2 ≤ get_or s' (get_or u' i 0) 0)

  old_each : (i : ℕ) → i < h → none_left P K (get_or u' i 0) ≡ true → Told i
  old_each i k t =
      let (a, is_a, below) = w.each i k (rw (stay i k) at t) in
      let (v, is_v, less) = lower_old m (get_or s' x 0) a in
      (v, e ∙ ap (lower_of m (get_or s' x 0)) is_a ∙ is_v, rw (flag i k) (omega arith))

  new_each : none_left P K (get_or u' h 0) ≡ true → Told h
  new_each t =
      let (v, is_v, less) = lower_new (get_or s' x 0) low high in
      (v, e ∙ rw (left ∙ (rw is at t)) is_v, rw is less)

  pub lowest_next : Lowest P K low' (h + 1) s' u'
  lowest_next = record {
    each = λ i k. below_suc (λ j. none_left P K (get_or u' j 0) ≡ true → Told j) h old_each new_each i (omega arith);
    one = λ v z. ⊎_elim (older v) (λ t. (h, omega arith, rw is (sym left ∙ t.0), rw is t.1))
        (lower_is m (get_or s' x 0) low high v (sym e ∙ z));
  }
    where
      older : (v : ℕ) → low ≡ Some v
          → (i : ℕ) × (i < h + 1) × (none_left P K (get_or u' i 0) ≡ true) × (get_or s' (get_or u' i 0) 0 ≡ v + 2)
      older v z = let (i, k, b, f) = w.one v z in (i, omega arith, rw (stay i k) b, rw (flag i k) f)
