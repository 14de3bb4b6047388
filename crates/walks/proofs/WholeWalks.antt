-- A walk that goes on from each state to all of its outcomes: it ends with the states that are reached from the start, and no others.
use mathlib.Core.Path.{◌≡◌, refl, sym, ◌∙◌}
use mathlib.Core.Bool.{Bool, true, false, ◌||◌}
use mathlib.Core.Logic.{⊎_elim}
use mathlib.Core.List.{List, Memᴰ}
use Prim.Native.Nat.{ℕ, ◌+◌, ◌<◌, ◌≤◌}
use native.Mathlib.Decide.{dec_lt}
use native.Mathlib.Omega.{arith}
use lib.Dec.{eqb}
use lib.ListN.{length, get_or}
use borrow.Author.Tests.{eqb-true, eq-eqb, lt-leb}
use Rattle.laws.specs.Sets.{any}
use Rattle.laws.proofs.Tests.{clash, or_cases, or_left, or_right}
use Rattle.laws.proofs.Sets.{any_hit, any_of}
use Rattle.walks.specs.Flags.{known_in, walked_in}
use Rattle.walks.specs.Queued.{Queued}
use Rattle.walks.specs.Spread.{Spread}
use Rattle.walks.proofs.FlagValues.{value_unwalked}
use Rattle.walks.proofs.Spreads.{queued_none, spread_known, spread_walked}

-- no walk is begun: every state is new
abbrev pub Fresh : ℕ → List ℕ → Type 0
Fresh n flags = (x : ℕ) → x < n → get_or flags x 0 ≡ 1

pub fresh_queued : {n : ℕ} {flags : List ℕ} (queue : List ℕ) → Fresh n flags → Queued n 0 flags queue
fresh_queued queue fresh = queued_none queue (λ x l. omega (arith, fresh x l))

-- The walk has gone on from the first h of the q states that it has reached. f₀ and u₀ are flags and queue where only the start is
-- reached, out the outcomes of a state.
pub record WholeWalk (n a : ℕ) (out : ℕ → List ℕ) (f₀ u₀ : List ℕ) (h q : ℕ) (flags queue : List ℕ) : Type 0 where
  pub queued : Queued n q flags queue
  pub ahead : h ≤ q
  pub same_flags : length flags ≡ length f₀
  pub same_queue : length queue ≡ length u₀
  pub unknown : (y : ℕ) → y < n → known_in flags y ≡ false
  pub start : walked_in flags a ≡ true
  pub closed : (i y : ℕ) → i < h → Memᴰ y (out (get_or queue i 0)) → walked_in flags y ≡ true
  -- what holds of the start and goes over to outcomes holds of all that is reached
  pub sure : (Q : ℕ → Bool) → Q a ≡ true → ((t x : ℕ) → t < n → Q t ≡ true → Memᴰ x (out t) → Q x ≡ true)
      → (y : ℕ) → y < n → walked_in flags y ≡ true → Q y ≡ true

module _ {n a : ℕ} {out : ℕ → List ℕ} {f₀ u₀ : List ℕ} where
  -- the start is reached
  pub whole_start : a < n → Fresh n f₀ → {q : ℕ} {f u : List ℕ} → Spread n 0 (λ y. eqb y a) 2 f₀ u₀ q f u → WholeWalk n a out f u 0 q f u
  unfolding known_in
  whole_start in_plan fresh {q} {f} {u} v = record {
    queued = v.queued;
    ahead = omega arith;
    same_flags = refl;
    same_queue = refl;
    unknown = λ y l. spread_known v (omega arith) y ∙ new y l;
    start = reached a ∙ or_right (walked_in f₀ a) (eqb a a) (eq-eqb a a refl);
    closed = λ i y l. absurd (omega arith);
    sure = λ Q first step y l t.
        ⊎_elim (λ w. clash w (value_unwalked f₀ y (omega (arith, fresh y l)))) (λ e. rw (eqb-true y a e) first)
        (or_cases (walked_in f₀ y) (eqb y a) (sym (reached y) ∙ t));
  }
    where
      new : (y : ℕ) → y < n → known_in f₀ y ≡ false
      new y l = lt-leb (get_or f₀ y 0) 0 (omega (arith, fresh y l))

      reached : (y : ℕ) → walked_in f y ≡ walked_in f₀ y || eqb y a
      reached = spread_walked v (omega arith) (λ y e. rw (eqb-true y a e) (new a in_plan))

  module _ {h q : ℕ} {f u : List ℕ} (w : WholeWalk n a out f₀ u₀ h q f u) where
    -- the walk goes on from the next state of the queue
    pub whole_next : h < q → {s : ℕ} → s ≡ get_or u h 0 → ((x : ℕ) → Memᴰ x (out s) → x < n) → {outs : List ℕ} → outs ≡ out s
        → {q' : ℕ} {f' u' : List ℕ} → Spread n q (λ y. any (eqb y) outs) 2 f u q' f' u' → WholeWalk n a out f₀ u₀ (h + 1) q' f' u'
    whole_next k {s} is inside {outs} e {q'} {f'} {u'} v = record {
      queued = v.queued;
      ahead = omega (arith, v.more);
      same_flags = v.same_flags ∙ w.same_flags;
      same_queue = v.same_queue ∙ w.same_queue;
      unknown = λ y l. spread_known v (omega arith) y ∙ w.unknown y l;
      start = grown a w.start;
      closed = λ i y l m. gone i y l m (dec_lt i h);
      sure = λ Q first step y l t.
          ⊎_elim (w.sure Q first step y l)
          (λ b. step s y state (w.sure Q first step s state reached_s) (member y b))
          (or_cases (walked_in f y) (any (eqb y) outs) (sym (reached y) ∙ t));
    }
      where
        state : s < n
        state = rw is (w.queued.states h k)

        reached_s : walked_in f s ≡ true
        reached_s = rw is (w.queued.placed h k)

        member : (y : ℕ) → any (eqb y) outs ≡ true → Memᴰ y (out s)
        member y b = let (x, m, t) = any_hit (eqb y) outs b in rw e at (mathlib.Core.List.Memᴰ.cast (eqb-true y x t) m)

        reached : (y : ℕ) → walked_in f' y ≡ walked_in f y || any (eqb y) outs
        reached = spread_walked v (omega arith) (λ y b. w.unknown y (inside y (member y b)))

        grown : (y : ℕ) → walked_in f y ≡ true → walked_in f' y ≡ true
        grown y t = reached y ∙ or_left (walked_in f y) (any (eqb y) outs) t

        gone : (i y : ℕ) → i < h + 1 → Memᴰ y (out (get_or u' i 0)) → Dec (i < h) → walked_in f' y ≡ true
        gone i y l m (yes j) = grown y (w.closed i y j (rw (v.kept i (omega arith)) at m))
        gone i y l m (no j) =
            let z : i ≡ h = omega arith in
            let here : Memᴰ y outs = rw (z, v.kept h k, ← is, ← e) at m in
            reached y ∙ or_right (walked_in f y) (any (eqb y) outs) (any_of (eqb y) outs here (eq-eqb y y refl))

    -- it has gone on from all: what is reached is closed
    pub whole_closed : q ≤ h → (t y : ℕ) → t < n → walked_in f t ≡ true → Memᴰ y (out t) → walked_in f y ≡ true
    whole_closed k t y l r m =
        let (i, j, e) = w.queued.listed t l r in
        w.closed i y (omega arith) (rw e m)
