-- When the loop comes to a number, the bytes of those before it are put, and there is room for the rest.
use mathlib.Core.List.{[]}
use native.Mathlib.Omega.{arith}
use Rattle.laws.specs.Entry.{twos}
use Rattle.laws.proofs.Entry.{length_twos}
use Rattle.laws.proofs.Spreads.{twos_spread}
use Rattle.writing.proofs.Puts.{numbers_from, putting_start, putting_room, putting_next, putting_done}
use Rattle.writing.proofs.bytes.Output.put_numbers.Goals as goal

pub loop-x-init : goal.loop-x-init
loop-x-init c =
    let numbers = c.args.numbers.now in
    putting_start twos_spread (rw (numbers_from numbers) (omega (arith, c.requires, length_twos numbers [])))

pub put_number-requires : goal.put_number-requires
unfolding twos
put_number-requires c = putting_room twos_spread c.loop-x.invariant c.loop-x-test.true

pub loop-x-preserved : goal.loop-x-preserved
unfolding twos
loop-x-preserved c = putting_next twos_spread c.loop-x.invariant c.loop-x-test.true c.put_number.ensures

pub returns : goal.returns
returns c = rw (numbers_from c.args.numbers.now) at (putting_done twos_spread c.loop-x.invariant c.loop-x-test.false)
