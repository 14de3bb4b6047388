-- The invariant is that the bytes of the first i entries stand in front; a turn stores one block of two more.
use Prim.Native.Nat.{ℕ, ◌≤◌}
use mathlib.Core.List.{List, []}
use Rattle.laws.proofs.Blocks.{Stored}
use Rattle.laws.specs.Entry.{twos}
use Rattle.store.proofs.encoding.store.Given as goal

abbrev pub invariant-loop-i : goal.invariant-loop-i
invariant-loop-i l = (l.i ≤ l.n) × Stored (λ (xs : List ℕ). twos xs []) l.table l.initial.bytes l.i l.bytes
