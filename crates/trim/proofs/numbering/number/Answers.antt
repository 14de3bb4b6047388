-- Each turn gives one state its number in both tables; old numbers differ, so no new number is written over.
use native.Mathlib.Omega.{arith}
use Rattle.trim.proofs.KeptStates.{kept_few, kept_inside, kept_rises}
use Rattle.trim.proofs.Numbers.{numbering_start, numbering_next, numbering_done}
use Rattle.trim.proofs.numbering.number.Goals as goal

pub loop-i-init : goal.loop-i-init
loop-i-init c = numbering_start

pub put-requires-in-loop-i : goal.put-requires-in-loop-i
put-requires-in-loop-i c =
    let k = c.args.kept.now in
    let l = c.loop-i-test.true in
    (omega (arith, c.from-s.ensures, kept_inside k _ l, c.loop-i.invariant.numbered.same, c.requires.1), omega (arith, kept_few k, l))

pub loop-i-preserved : goal.loop-i-preserved
loop-i-preserved c =
    let k = c.args.kept.now in
    numbering_next c.loop-i.invariant (record { inside = λ i l. omega (arith, kept_inside k i l, c.requires.1); rise = kept_rises k })
    c.loop-i-test.true (omega arith) c.from-s.ensures (omega arith) c.put.ensures c.put-in-loop-i.ensures

pub returns-clause-olds_after : goal.returns-clause-olds_after
returns-clause-olds_after c = numbering_done c.loop-i.invariant c.requires.0 c.loop-i-test.false
