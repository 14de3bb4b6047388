-- The loop of a walk: it goes on from place h of the queue, and is a walk of whatever start and known set it was one of.
use mathlib.Core.Path.{◌≡◌, refl, sym, ◌∙◌, subst}
use mathlib.Core.Bool.{Bool, true, false}
use mathlib.Core.List.{List}
use Prim.Native.Nat.{ℕ, ◌+◌, ◌<◌, ◌≤◌}
use native.Mathlib.Omega.{arith}
use lib.ListN.{length, get_or, set, length-set}
use lib.Seq.{get_or-set_other}
use Rattle.std.specs.Prelude.{Option}
use Rattle.laws.specs.Filled.{Filled}
use Rattle.model.specs.Plan.{Plan}
use Rattle.model.specs.Tables.{Tables, lists_in}
use Rattle.model.specs.SoundTest.{sound}
use Rattle.model.specs.Held.{plan_in}
use Rattle.model.proofs.HeldPlan.{states_held}
use Rattle.model.proofs.Valid.{sound_valid}
use Rattle.tables.specs.Spans.{span_at}
use Rattle.choice.specs.Order.{alone}
use Rattle.walks.specs.Flags.{known_in}
use Rattle.walks.specs.Queued.{Queued}
use Rattle.walks.specs.Spread.{Spread}
use Rattle.walks.proofs.FlagValues.{walked_value}
use Rattle.walks.proofs.Spreads.{flag_reached, flag_past, spread_known}
use Rattle.search.specs.Past.{Past}
use Rattle.search.specs.Marks.{marked_at, none_left, lower_of}
use Rattle.search.specs.Underway.{Underway}
use Rattle.search.specs.Walked.{Expanded, Lowest, Walked}
use Rattle.search.specs.Tried.{Tried, Retried}
use Rattle.search.proofs.Trying.{tried_more, tried_next}
use Rattle.search.proofs.WalkSteps.{underway_expanded}
use Rattle.search.proofs.Lowering.{marked_left, lowest_next}

pub past_then : {n : ℕ} {l₁ l₂ l₃ : List ℕ} → Past n l₁ l₂ → Past n l₂ l₃ → Past n l₁ l₃
past_then v w = record { same = w.same ∙ v.same; low = λ x k. refl; high = λ x k. w.high x k ∙ v.high x k }

pub past_filled : {n : ℕ} {f : ℕ → ℕ} {l₀ l : List ℕ} → Filled n f l₀ l → Past n l₀ l
past_filled w = record { same = w.same; low = λ x k. refl; high = w.high }

pub past_spread : {n q : ℕ} {X : ℕ → Bool} {mark : ℕ} {s u : List ℕ} {q' : ℕ} {s' u' : List ℕ} → Spread n q X mark s u q' s' u'
    → Past n s s'
past_spread v = record { same = v.same_flags; low = λ x k. refl; high = flag_past v }

past_set : {n : ℕ} {l₀ l : List ℕ} (x v : ℕ) → x < n → Past n l₀ l → (l' : List ℕ) → l' ≡ set l x v → Past n l₀ l'
past_set {l = l} x v k w l' e = rw e (record {
  same = length-set l x v ∙ w.same;
  low = λ y m. refl;
  high = λ y m. get_or-set_other l x y v 0 (λ z. omega arith) ∙ w.high y m;
})

-- no state before place h is marked
abbrev pub Clear : Plan → (ℕ → Bool) → ℕ → List ℕ → Type 0
Clear P K h u = (i : ℕ) → i < h → none_left P K (get_or u i 0) ≡ false

-- `from`, `reached`, c₀, s₀ and u₀ are as when the loop begins
pub record Walking (P : Plan) (n from reached : ℕ) (c₀ s₀ u₀ : List ℕ) (h q : ℕ) (low : Option ℕ) (cs s u t : List ℕ) : Type 0 where
  pub queued : Queued n q s u
  pub tried : Tried P n (known_in s) t
  pub commands : Past n c₀ cs
  pub flags : Past n s₀ s
  pub same_queue : length u ≡ length u₀
  pub goes : (K : ℕ → Bool) (a : ℕ) → Underway P n K a from reached c₀ s₀ u₀ → Clear P K from u₀
      → Underway P n K a h q cs s u × Lowest P K low h s u

module _ (T : Tables) (sounds : sound T ≡ true) {from reached : ℕ} {c₀ s₀ u₀ : List ℕ} {h q : ℕ} {low : Option ℕ} {cs s u t : List ℕ}
    (w : Walking (plan_in T) T.size.n from reached c₀ s₀ u₀ h q low cs s u t) where
  -- the next state of the queue was gone on from
  module _ (k : h < q) (x : ℕ) (p : x ≡ get_or u h 0) (long : T.size.n ≤ length cs) {q' : ℕ} {cs' s' u' : List ℕ}
      (g : Expanded (plan_in T) T.size.n q x (h + 2) cs s u q' cs' s' u') (v : Option ℕ)
      (e : v ≡ lower_of (marked_at (span_at T x) cs' s' x) (get_or s' x 0) low) where
    state : x < T.size.n
    state = rw p (w.queued.states h k)

    here : get_or u' h 0 ≡ x
    here = g.spreads.kept h k ∙ sym p

    flag_stays : (i : ℕ) → i < h → get_or s' (get_or u' i 0) 0 ≡ get_or s (get_or u i 0) 0
    flag_stays i m = rw (g.spreads.kept i (omega arith)) (flag_reached g.spreads (get_or u i 0) (w.queued.placed i (omega arith)))

    module _ (K : ℕ → Bool) (a : ℕ) (d : Underway (plan_in T) T.size.n K a h q cs s u) (lowest : Lowest (plan_in T) K low h s u) where
      next : Underway (plan_in T) T.size.n K a (h + 1) q' cs' s' u'
      next = underway_expanded d (sound_valid T sounds) (states_held T) k x p long g

      left : marked_at (span_at T x) cs' s' x ≡ none_left (plan_in T) K x
      left =
          marked_left T sounds K x state cs' s' (rw here at (next.queued.placed h (omega (arith, next.ahead))))
          (rw here at (next.took h (omega arith)))

      lowest_then : Lowest (plan_in T) K v (h + 1) s' u'
      lowest_then =
          lowest_next lowest s' u' (λ i m. g.spreads.kept i (omega arith)) flag_stays x here
          (walked_value s' x (rw here at (next.queued.placed h (omega (arith, next.ahead))))) _ left v e

    pub walking_next : {t' : List ℕ} → Retried (alone (lists_in T) (span_at T x)) (known_in s) x t t' → length t' ≡ length t
        → Walking (plan_in T) T.size.n from reached c₀ s₀ u₀ (h + 1) q' v cs' s' u' t'
    walking_next y z = record {
      queued = g.spreads.queued;
      tried = tried_more (λ r b. spread_known g.spreads (omega arith) r ∙ b) (tried_next T x state (span_at T x) refl y z w.tried);
      commands = past_set x _ state w.commands cs' g.took;
      flags = past_then w.flags (past_spread g.spreads);
      same_queue = g.spreads.same_queue ∙ w.same_queue;
      goes = λ K a d clear. let (now, lowest) = w.goes K a d clear in (next K a now lowest, lowest_then K a now lowest);
    }

  -- all are gone on from
  pub walking_done : q ≤ h → (K : ℕ → Bool) (a : ℕ) → Underway (plan_in T) T.size.n K a from reached c₀ s₀ u₀
      → Clear (plan_in T) K from u₀
      → Walked (plan_in T) T.size.n K a (record { reached = q; low = low }) cs s u
  walking_done z K a d clear =
      let (now, lowest) = w.goes K a d clear in
      let e : h ≡ q = omega (arith, now.ahead) in
      record {
        done = subst (λ i. Underway (plan_in T) T.size.n K a i q cs s u) e now;
        lowest = subst (λ i. Lowest (plan_in T) K low i s u) e lowest;
      }
