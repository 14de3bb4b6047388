-- Each pair of neighbours before place i rises, so the first that does not is the answer for all.
use mathlib.Core.Path.{◌≡◌}
use mathlib.Core.Bool.{true}
use Prim.Native.Nat.{◌+◌, ◌-◌}
use Rattle.laws.specs.Sets.{every}
use Rattle.model.specs.SoundTest.{rises_at}
use Rattle.tables.proofs.rising.rises.Given as goal

abbrev pub invariant-loop-i : goal.invariant-loop-i
invariant-loop-i l = every (λ j. rises_at l.entries (l.from + j)) l.i ≡ true

abbrev pub decreases-loop-i : goal.decreases-loop-i
decreases-loop-i l = l.k - l.i
