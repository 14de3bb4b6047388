-- The loop over the states: what holds before each turn.
use mathlib.Core.Path.{◌≡◌, refl, sym, ap, subst, ◌∙◌}
use mathlib.Core.List.{List, ◌++◌, append-nil}
use Prim.Native.Nat.{ℕ, ◌+◌, ◌*◌, ◌<◌, ◌≤◌}
use native.Mathlib.Nat.{zero-add, add-zero}
use native.Mathlib.Omega.{arith}
use Rattle.laws.specs.Lists.{tabulate, joined}
use Rattle.laws.specs.Writes.{put_all}
use Rattle.laws.specs.Wrote.{Wrote}
use Rattle.laws.proofs.Joins.{joined_append, joined_bound}
use Rattle.laws.proofs.Lists.{tabulate_append}
use Rattle.laws.proofs.Wrote.{wrote_then}
use Rattle.model.specs.Plan.{Plan}
use Rattle.model.specs.Listing.{state_line}
use Rattle.model.proofs.ListingLength.{state_length}
use Rattle.listing_text.specs.declared.Output.{Output}
use Rattle.listing_text.specs.Puts.{Room, Put}
use Rattle.listing_text.proofs.Puts.{wrote, put}

module _ (P : Plan) where
  abbrev pub lines : ℕ → List ℕ
  lines s = joined (tabulate (state_line P) 0 s)

  last_line : (s : ℕ) → joined (tabulate (state_line P) (0 + s) 1) ≡ state_line P s
  unfolding joined tabulate
  last_line s = append-nil (state_line P (0 + s)) ∙ ap (state_line P) (zero-add s)

  more_lines : (s : ℕ) → lines (s + 1) ≡ lines s ++ state_line P s
  more_lines s =
      ap joined (sym (tabulate_append (state_line P) 0 s 1))
      ∙ joined_append (tabulate (state_line P) 0 s) (tabulate (state_line P) (0 + s) 1)
      ∙ ap (λ (r : List ℕ). lines s ++ r) (last_line s)

  -- ---- stored in a list

  pub lines_none : (l : List ℕ) (i : ℕ) → Wrote l i (lines 0) l i
  unfolding joined tabulate put_all
  lines_none l i = record { stored = refl; past = sym (add-zero i) }

  module _ (s : ℕ) {l m : List ℕ} {i j : ℕ} (w : Wrote l i (lines s) m j) where
    pub lines_below : j ≤ i + s * 35
    lines_below = omega (arith, w.past, joined_bound (state_line P) 0 s 35 (state_length P))

    pub lines_next : {r : List ℕ} {k : ℕ} → Wrote m j (state_line P s) r k → Wrote l i (lines (s + 1)) r k
    lines_next v = rw (more_lines s) (wrote_then w v)

    pub lines_done : {n : ℕ} → s ≤ n → n ≤ s → Wrote l i (lines n) m j
    lines_done h k = let e : s ≡ _ = omega arith in subst (λ (n : ℕ). Wrote l i (lines n) m j) e w

  -- ---- put into the bytes lent

  pub none_put : (out : Output) → Put out (lines 0) out
  none_put out = put refl (lines_none out.bytes.now out.place)

  module _ (s : ℕ) {a b : Output} (w : Put a (lines s) b) where
    pub lines_room : {n : ℕ} → Room a (n * 35) → s < n → Room b 35
    lines_room r h = omega (arith, r, h, w.keeps, lines_below s (wrote w))

    pub next_put : {c : Output} → Put b (state_line P s) c → Put a (lines (s + 1)) c
    next_put v = put (v.same ∙ w.same) (lines_next s (wrote w) (wrote v))

    pub all_put : {n : ℕ} → s ≤ n → n ≤ s → Put a (lines n) b
    all_put h k = put w.same (lines_done s (wrote w) h k)
