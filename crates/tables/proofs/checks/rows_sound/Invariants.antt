-- The rows before row s pass the test, so the first that does not is the answer for all, whatever the other tables hold.
use mathlib.Core.Path.{◌≡◌}
use mathlib.Core.Bool.{true}
use Rattle.laws.specs.Sets.{every}
use Rattle.model.specs.SoundTest.{row_sound}
use Rattle.tables.specs.Meaning.{lent}
use Rattle.tables.proofs.checks.rows_sound.Given as goal

abbrev pub invariant-loop-s : goal.invariant-loop-s
invariant-loop-s l = every (row_sound (lent l.plan)) l.s ≡ true
