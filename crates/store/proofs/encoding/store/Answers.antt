-- The invariant is that the bytes of the first i entries stand in front; a turn stores one block of two more.
use native.Mathlib.Omega.{arith}
use Rattle.laws.proofs.Blocks.{stored_none, stored_next, stored_done, twos_blocks}
use Rattle.laws.specs.Entry.{twos}
use Rattle.store.proofs.encoding.store.Goals as goal

pub loop-i-init : goal.loop-i-init
loop-i-init c = (omega arith, stored_none twos_blocks _ _)

pub loop-i-preserved : goal.loop-i-preserved
unfolding twos
loop-i-preserved c = (
  omega (arith, c.loop-i-test.true),
  stored_next twos_blocks 0 c.loop-i.invariant.1
      (omega (arith, c.requires, c.loop-i-test.true)) _ c.store_entry.ensures,
)

pub returns : goal.returns
returns c =
    stored_done twos_blocks c.loop-i.invariant.1 c.loop-i.invariant.0 c.loop-i-test.false c.requires.0 c.requires.1
