-- The invariant is that the bytes of the first rows stand in front; a turn stores one row's block more.
use Prim.Native.Nat.{◌≤◌}
use mathlib.Core.List.{List}
use Rattle.laws.proofs.Blocks.{Stored}
use Rattle.model.specs.Boundary.{bytes_for, row_entries}
use Rattle.model.specs.Tables.{Row as ModelRow}
use Rattle.tables.specs.Meaning.{rows_of}
use Rattle.store.proofs.encoding.store_rows.Given as goal

abbrev pub invariant-loop-s : goal.invariant-loop-s
invariant-loop-s l = (l.s ≤ l.n) × Stored (λ (ws : List ModelRow). bytes_for (row_entries ws)) (rows_of l.rows) l.initial.bytes l.s l.bytes
