-- Each turn gives one state its number in both tables; old numbers differ, so no new number is written over.
use Rattle.trim.proofs.Numbers.{Numbering}
use Rattle.trim.proofs.numbering.number.Given as goal

abbrev pub invariant-loop-i : goal.invariant-loop-i
invariant-loop-i l = Numbering l.kept.olds.now l.initial.olds l.initial.scratch l.olds l.scratch l.i
