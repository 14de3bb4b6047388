-- Where parts start.
use mathlib.Core.Path.{◌≡◌, ap}
use mathlib.Core.List.{List}
use Prim.Native.Nat.{ℕ, suc, ◌+◌, ◌≤◌, ◌<◌}
use native.Mathlib.Numerals.{add-one}
use native.Mathlib.Omega.{arith}
use borrow.Author.Tests.{lt-ltb, le-ltb}
use lib.ListN.{get_or}
use Rattle.laws.proofs.Rising.{rises, between}
use Rattle.laws.specs.Starts.{start_of, Parts}

module _ (starts : List ℕ) (count end : ℕ) where
  pub start_in_lem : (i : ℕ) → i < count → start_of starts count end i ≡ get_or starts i 0
  unfolding start_of
  start_in_lem i h = rw (lt-ltb i count h)

  pub start_out : (i : ℕ) → count ≤ i → start_of starts count end i ≡ end
  unfolding start_of
  start_out i h = rw (le-ltb i count h)

  -- of the code's i + 1
  pub start_next : (i : ℕ) → start_of starts count end (i + 1) ≡ start_of starts count end (suc i)
  start_next i = ap (start_of starts count end) (add-one i)

  -- where the parts begin at 0, each place up to the end is in one
  pub part_of : start_of starts count end 0 ≡ 0 → (j : ℕ) → j < end
      → (i : ℕ) × (i < count) × (start_of starts count end i ≤ j) × (j < start_of starts count end (suc i))
  part_of z j h = between (start_of starts count end) j count (omega arith) (omega (arith, start_out count (omega arith)))

  module _ (P : Parts starts count end) where
    pub start_order : (i j : ℕ) → i ≤ j → j ≤ count → start_of starts count end i ≤ start_of starts count end j
    start_order = rises (start_of starts count end) count P.rises

    pub start_le : (i : ℕ) → i ≤ count → start_of starts count end i ≤ end
    start_le i h = omega (arith, start_order i count h (omega arith), start_out count (omega arith))
