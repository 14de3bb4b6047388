-- Each turn writes one entry, at the next place.
use mathlib.Core.Path.{ap}
use Prim.Native.Nat.{ℕ, ◌+◌, ◌-◌}
use Rattle.trim.proofs.Mapped.{mapped_start, mapped_next, mapped_done, part_slice}
use Rattle.trim.proofs.copying.copy_firsts.Goals as goal

pub loop-i-init : goal.loop-i-init
loop-i-init c = mapped_start

pub loop-i-preserved : goal.loop-i-preserved
loop-i-preserved c =
    mapped_next c.loop-i.invariant c.loop-i-test.true (ap (λ (x : ℕ). x - c.args.stretch.from + c.args.t) c.from.ensures) c.put.ensures

pub returns : goal.returns
returns c =
    rw (← part_slice c.args.stretch.first c.args.stretch.end c.args.firsts.now c.requires.first_le_end.0)
    (mapped_done c.loop-i.invariant c.loop-i-test.false)
