-- The loop that takes a part of the outcome table into a walk.
use mathlib.Core.Path.{◌≡◌, refl, sym, ◌∙◌, ap}
use mathlib.Core.Bool.{Bool, false, ◌||◌, or-false, or_assoc}
use mathlib.Core.List.{List}
use Prim.Native.Nat.{ℕ, ◌+◌, ◌<◌, ◌≤◌}
use native.Mathlib.Omega.{arith}
use lib.Dec.{eqb}
use lib.ListN.{length, get_or}
use lib.Seq.{slice}
use Rattle.laws.specs.Sets.{any}
use Rattle.laws.proofs.Scans.{any_part, any_no_part}
use Rattle.walks.specs.Queued.{Queued}
use Rattle.walks.specs.Spread.{Spread}
use Rattle.walks.proofs.FlagValues.{not_taken}
use Rattle.walks.proofs.Spreads.{spread_none, spread_as, spread_then}

-- at place i: what is taken in, and what is left
pub record Spreading (n from end mark q : ℕ) (outs s₀ u₀ : List ℕ) (i e : ℕ) (s u : List ℕ) : Type 0 where
  pub before : i ≤ end
  pub so_far : ℕ → Bool
  pub done : Spread n q so_far mark s₀ u₀ e s u
  pub left : (y : ℕ) → so_far y || any (eqb y) (slice i end outs) ≡ any (eqb y) (slice from end outs)

pub spreading_start : {n from end mark q : ℕ} (outs : List ℕ) {s u : List ℕ} → Queued n q s u → from ≤ end
    → Spreading n from end mark q outs s u from q s u
spreading_start {mark = mark} outs {s} L h = record {
  before = h;
  so_far = λ y. false;
  done = spread_none mark L (λ y. false) (λ y. not_taken s y (λ z. false) refl);
  left = λ y. refl;
}

module _ {n from end mark q : ℕ} {outs s₀ u₀ : List ℕ} {i e : ℕ} {s u : List ℕ} (w : Spreading n from end mark q outs s₀ u₀ i e s u) where
  pub spreading_done : end ≤ i → Spread n q (λ y. any (eqb y) (slice from end outs)) mark s₀ u₀ e s u
  spreading_done h =
      spread_as
      (λ y. sym (or-false (w.so_far y)) ∙ ap (λ t. w.so_far y || t) (sym (any_no_part (eqb y) outs i end w.before h)) ∙ w.left y)
      w.done

  module _ (h : i < end) (k : end ≤ length outs) (x : ℕ) (p : x ≡ get_or outs i 0) where
    here : (y : ℕ) → any (eqb y) (slice i end outs) ≡ eqb y x || any (eqb y) (slice (i + 1) end outs)
    here y = any_part (eqb y) outs i end h k ∙ rw (← p)

    pub spreading_next : 2 ≤ mark → (e' : ℕ) (s' u' : List ℕ) → Spread n e (λ y. eqb y x) mark s u e' s' u'
        → Spreading n from end mark q outs s₀ u₀ (i + 1) e' s' u'
    spreading_next high e' s' u' v = record {
      before = omega arith;
      so_far = λ y. w.so_far y || eqb y x;
      done = spread_then high w.done v;
      left = λ y.
          or_assoc (w.so_far y) (eqb y x) (any (eqb y) (slice (i + 1) end outs)) ∙ ap (λ t. w.so_far y || t) (sym (here y)) ∙ w.left y;
    }
