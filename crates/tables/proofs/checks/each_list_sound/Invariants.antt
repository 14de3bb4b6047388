-- The lists before list i pass the test, so the first that does not is the answer for all.
use mathlib.Core.Path.{◌≡◌}
use mathlib.Core.Bool.{true}
use Prim.Native.Nat.{◌-◌}
use Rattle.laws.specs.Sets.{every}
use Rattle.tables.specs.Lasts.{list_below}
use Rattle.tables.specs.ListTables.{table_of}
use Rattle.tables.proofs.checks.each_list_sound.Given as goal

abbrev pub invariant-loop-i : goal.invariant-loop-i
invariant-loop-i l = every (list_below l.least l.n (table_of l.lists)) l.i ≡ true

abbrev pub decreases-loop-i : goal.decreases-loop-i
decreases-loop-i l = l.lists.count - l.i
