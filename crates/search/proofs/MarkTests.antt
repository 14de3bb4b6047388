-- The lower of two places, of a state whose test t and flag f were read.
use mathlib.Core.Path.{◌≡◌, sym, ◌∙◌}
use mathlib.Core.Bool.{Bool, true, false, not, ◌&&◌}
use mathlib.Core.List.{List}
use Prim.Native.Nat.{ℕ, ◌-◌, ◌<◌, ◌≤◌}
use lib.Dec.{eqb, leb}
use lib.ListN.{get_or}
use borrow.Author.Tests.{leb-true}
use native.Mathlib.Omega.{arith}
use mir.Val.{bool_byte}
use Rattle.std.specs.Prelude.{min, Option, Some, None}
use Rattle.laws.specs.Entry.{FFFF}
use Rattle.laws.proofs.Tests.{and_both}
use Rattle.tables.specs.declared.spans.Span.{Span}
use Rattle.tables.specs.Spans.{failing_span}
use Rattle.walks.specs.Flags.{walked_in}
use Rattle.search.specs.Marks.{active_span, start_flag, marked_at, lower_of}

-- a test as a flag
pub flag_told : (q : Span) (t : Bool) → t ≡ failing_span q → (f : ℕ) → f ≡ bool_byte (not t) → (f ≡ start_flag q) × (f < 65536)
unfolding start_flag
flag_told q true e f p = (p ∙ rw (← e), rw p (omega arith))
flag_told q false e f p = (p ∙ rw (← e), rw p (omega arith))

module _ (q : Span) (cs s : List ℕ) (x : ℕ) (t : Bool) (p : t ≡ marked_at q cs s x) where
  pub lower_unmarked : t ≡ false → (low : Option ℕ) → low ≡ lower_of (marked_at q cs s x) (get_or s x 0) low
  unfolding lower_of
  lower_unmarked h None = rw (← p, h)
  lower_unmarked h (Some low) = rw (← p, h)

  module _ (h : t ≡ true) (f : ℕ) (e : f ≡ get_or s x 0) where
    pub marked_high : 2 ≤ f
    unfolding marked_at walked_in
    marked_high =
        let both = and_both (leb 2 (get_or s x 0) && active_span q) (eqb (get_or cs x 0) FFFF) (sym p ∙ h) in
        rw e (leb-true 2 (get_or s x 0) (and_both (leb 2 (get_or s x 0)) (active_span q) both.0).0)

    pub lower_first : (v : ℕ) → v ≡ f - 2 → Some v ≡ lower_of (marked_at q cs s x) (get_or s x 0) None
    unfolding lower_of
    lower_first v d = rw (← p, h, ← e, ← d)

    pub lower_both : (low r : ℕ) → r ≡ min (f - 2) low → Some r ≡ lower_of (marked_at q cs s x) (get_or s x 0) (Some low)
    unfolding lower_of
    lower_both low r d = rw (← p, h, ← e, ← d)
