-- Each turn writes one outcome under its new number, at the next place.
use mathlib.Core.Path.{refl, ap}
use Prim.Native.Nat.{ℕ}
use lib.ListN.{get_or}
use Rattle.trim.proofs.Mapped.{mapped_start, mapped_next, mapped_done, part_slice}
use Rattle.trim.proofs.copying.copy_outcomes.Goals as goal

pub loop-i-init : goal.loop-i-init
loop-i-init c = mapped_start

pub loop-i-preserved : goal.loop-i-preserved
loop-i-preserved c =
    mapped_next c.loop-i.invariant c.loop-i-test.true (ap (λ (x : ℕ). get_or c.args.numbers.now x 0) c.from.ensures) refl

pub returns : goal.returns
returns c =
    rw (← part_slice c.args.stretch.from c.args.stretch.to c.args.outcomes.now c.requires.from_le_to.0)
    (mapped_done c.loop-i.invariant c.loop-i-test.false)
