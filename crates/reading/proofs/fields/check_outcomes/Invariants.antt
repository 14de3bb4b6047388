-- The invariant is that the entries left rise from the last one on exactly if all entries rise; each refusal is that of the entry looked
-- at.
use Rattle.reading.proofs.FieldWays.{entries_from}
use Rattle.model.specs.File.{rising, entries}
use lib.ListN.{drop}
use mathlib.Core.Path.{◌≡◌}
use Prim.Native.Nat.{◌≤◌, ◌-◌}
use Rattle.reading.proofs.fields.check_outcomes.Given as goal

abbrev pub invariant-loop-i : goal.invariant-loop-i
invariant-loop-i l = (l.i ≤ l.count)
    × (rising l.n 0 (entries l.count (drop l.at l.file)) ≡ rising l.n l.low (entries_from (drop l.at l.file) l.count l.i))

abbrev pub decreases-loop-i : goal.decreases-loop-i
decreases-loop-i l = l.count - l.i
