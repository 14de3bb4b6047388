-- The loop holds that what is left to write are the trimmed states from i on; each turn writes one of them.
use Rattle.trim.proofs.KeptStates.{tree_in}
use Rattle.trim.proofs.CopiedStates.{Copying}
use Rattle.trim.proofs.copying.copy_states.Given as goal

abbrev pub invariant-loop-i : goal.invariant-loop-i
invariant-loop-i l = Copying (tree_in l.kept) l.initial.rows2 l.initial.firsts2 l.initial.outcomes2 l.rows2 l.firsts2 l.outcomes2 l.i l.m l.t
