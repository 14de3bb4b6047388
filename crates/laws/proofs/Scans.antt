-- Whether some entry, or each, of a part of a table passes a test: the first entry, and the rest of the part.
use mathlib.Core.Path.{◌≡◌, ap}
use mathlib.Core.Bool.{Bool, true, false, ◌&&◌, ◌||◌}
use mathlib.Core.List.{List}
use Prim.Native.Nat.{ℕ, ◌+◌, ◌<◌, ◌≤◌}
use native.Mathlib.Numerals.{add-one}
use native.Mathlib.Omega.{arith}
use lib.ListN.{length, get_or}
use lib.Seq.{slice, slice-cons, slice_empty}
use Rattle.laws.specs.Sets.{any, each}

module _ (f : ℕ → Bool) (l : List ℕ) where
  pub any_part : (i end : ℕ) → i < end → end ≤ length l → any f (slice i end l) ≡ f (get_or l i 0) || any f (slice (i + 1) end l)
  unfolding any
  any_part i end h k = rw (add-one i) (ap (any f) (slice-cons i end l 0 h k))

  pub any_no_part : (i end : ℕ) → i ≤ end → end ≤ i → any f (slice i end l) ≡ false
  unfolding any
  any_no_part i end h k = let e : i ≡ end = omega arith in rw e (ap (any f) (slice_empty end l))

  pub each_part : (i end : ℕ) → i < end → end ≤ length l → each f (slice i end l) ≡ f (get_or l i 0) && each f (slice (i + 1) end l)
  unfolding each
  each_part i end h k = rw (add-one i) (ap (each f) (slice-cons i end l 0 h k))

  pub each_no_part : (i end : ℕ) → i ≤ end → end ≤ i → each f (slice i end l) ≡ true
  unfolding each
  each_no_part i end h k = let e : i ≡ end = omega arith in rw e (ap (each f) (slice_empty end l))
