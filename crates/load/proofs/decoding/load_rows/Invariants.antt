-- The invariant is that the rows left to load make the table what all of them make it.
use Rattle.load.proofs.LoadRows.{Rows}
use Prim.Native.Nat.{◌≤◌}
use Rattle.load.proofs.decoding.load_rows.Given as goal

abbrev pub invariant-loop-s : goal.invariant-loop-s
invariant-loop-s l = (l.s ≤ l.n) × Rows l.bytes l.n l.initial.rows l.rows l.s
