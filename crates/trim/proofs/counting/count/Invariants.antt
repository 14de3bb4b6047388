-- The loop holds what is counted of the kept states that it has gone over; at the end it is all that the trimmed plan has.
use Rattle.trim.proofs.KeptStates.{tree_in}
use Rattle.trim.proofs.Counted.{Counting}
use Rattle.trim.proofs.counting.count.Given as goal

abbrev pub invariant-loop-old : goal.invariant-loop-old
invariant-loop-old l = Counting (tree_in l.kept) l.old-index l.m l.t
