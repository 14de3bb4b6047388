-- The loop that ends a round at the places of the queue whose states are reached no more: what is done at place i.
use mathlib.Core.Path.{◌≡◌, sym, ◌∙◌, ap}
use mathlib.Core.Bool.{Bool, cond}
use mathlib.Core.List.{List}
use Prim.Native.Nat.{ℕ, ◌+◌, ◌<◌, ◌≤◌}
use native.Mathlib.Omega.{arith}
use lib.ListN.{length, get_or, set, length-set}
use lib.Seq.{get_or-set_same, get_or-set_other}
use Rattle.laws.specs.Entry.{FFFF}
use Rattle.laws.proofs.Sets.{below_suc}
use Rattle.model.specs.Tables.{Tables}
use Rattle.tables.specs.declared.spans.Span.{Span}
use Rattle.tables.specs.Spans.{span_at}
use Rattle.walks.specs.Flags.{walked_in}
use Rattle.walks.specs.Queued.{Queued}
use Rattle.search.specs.Marks.{marked_at}
use Rattle.search.specs.Settled.{Settled}

module _ {n q' q i : ℕ} (T : Tables) {u c₀ s₀ cs s : List ℕ} (L : Queued n q s₀ u) (lc : n ≤ length c₀) (ls : n ≤ length s₀)
    (w : Settled q' i (λ x. marked_at (span_at T x) c₀ s₀ x) u c₀ s₀ cs s) (from : q' ≤ i) (l : i < q) where
  abbrev x : ℕ
  x = get_or u i 0

  state : x < n
  state = L.states i l

  -- the state is as it was
  untouched : (get_or s x 0 ≡ get_or s₀ x 0) × (get_or cs x 0 ≡ get_or c₀ x 0)
  untouched = w.kept x (λ j k m e. omega (arith, L.once j i (omega arith) l e))

  marked_same : (p : Span) → marked_at p cs s x ≡ marked_at p c₀ s₀ x
  unfolding marked_at walked_in
  marked_same p = rw (untouched.0, untouched.1)

  module _ (y : ℕ) (is : y ≡ x) (p : Span) (e : p ≡ span_at T y) {cs' s' : List ℕ} (c_is : cs' ≡ set cs y FFFF)
      (s_is : s' ≡ set s y (cond (marked_at p cs s y) 0 1)) where
    flag_here : get_or s' x 0 ≡ cond (marked_at (span_at T x) c₀ s₀ x) 0 1
    flag_here =
        rw (s_is, is, e, is)
        (get_or-set_same s x (cond (marked_at (span_at T x) cs s x) 0 1) 0 (omega (arith, state, w.same_flags))
        ∙ rw (marked_same (span_at T x)))

    blank_here : get_or cs' x 0 ≡ FFFF
    blank_here = rw (c_is, is) (get_or-set_same cs x FFFF 0 (omega (arith, state, w.same_commands)))

    other_flag : (z : ℕ) → (z ≡ x → ⊥) → get_or s' z 0 ≡ get_or s z 0
    other_flag z h = rw (s_is, is) (get_or-set_other s x z (cond (marked_at p cs s x) 0 1) 0 h)

    other_entry : (z : ℕ) → (z ≡ x → ⊥) → get_or cs' z 0 ≡ get_or cs z 0
    other_entry z h = rw (c_is, is) (get_or-set_other cs x z FFFF 0 h)

    apart : (j : ℕ) → j < i → get_or u j 0 ≡ x → ⊥
    apart j k e = omega (arith, L.once j i (omega arith) l e)

    pub settled_next : Settled q' (i + 1) (λ z. marked_at (span_at T z) c₀ s₀ z) u c₀ s₀ cs' s'
    settled_next = record {
      flag = λ j a b. below_suc (λ k. q' ≤ k → get_or s' (get_or u k 0) 0 ≡ cond (marked_at (span_at T (get_or u k 0)) c₀ s₀ (get_or u k 0)) 0 1) i
          (λ k m g. other_flag (get_or u k 0) (apart k m) ∙ w.flag k g m) (λ g. flag_here) j (omega arith) a;
      blank = λ j a b. below_suc (λ k. q' ≤ k → get_or cs' (get_or u k 0) 0 ≡ FFFF) i
          (λ k m g. other_entry (get_or u k 0) (apart k m) ∙ w.blank k g m) (λ g. blank_here) j (omega arith) a;
      kept = λ z h.
          let old = w.kept z (λ j a b. h j a (omega arith)) in
          let far : z ≡ x → ⊥ = λ g. h i from (omega arith) (sym g) in
          (other_flag z far ∙ old.0, other_entry z far ∙ old.1);
      same_flags = ap length s_is ∙ length-set s y (cond (marked_at p cs s y) 0 1) ∙ w.same_flags;
      same_commands = ap length c_is ∙ length-set cs y FFFF ∙ w.same_commands;
    }

-- the same marked states
pub settled_as : {n q' q : ℕ} {M N : ℕ → Bool} {f u cs s cs' s' : List ℕ} → Queued n q f u → ((x : ℕ) → x < n → M x ≡ N x)
    → Settled q' q M u cs s cs' s'
    → Settled q' q N u cs s cs' s'
settled_as L h w = record {
  flag = λ i l k. w.flag i l k ∙ ap (λ b. cond b 0 1) (h _ (L.states i k));
  blank = w.blank;
  kept = w.kept;
  same_flags = w.same_flags;
  same_commands = w.same_commands;
}
