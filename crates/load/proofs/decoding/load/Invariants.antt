-- The invariant is that the entries left to load make the table what all of them make it.
use Prim.Native.Nat.{◌*◌, ◌≤◌}
use Rattle.laws.proofs.Writes.{ruled}
use Rattle.laws.specs.Entry.{be16}
use lib.ListN.{length}
use mathlib.Core.Path.{◌≡◌}
use Rattle.load.proofs.decoding.load.Given as goal

abbrev pub invariant-loop-i : goal.invariant-loop-i
invariant-loop-i l = (l.i ≤ l.n) × (length l.table ≡ length l.initial.table) × (ruled (λ j. be16 l.bytes (j * 2)) l.n l.i l.table ≡ ruled (λ j. be16 l.bytes (j * 2)) l.n 0 l.initial.table)
