-- Each turn writes one entry; old numbers differ, so none is written over.
use lib.ListN.{get_or}
use Rattle.laws.specs.Placed.{Placed}
use Rattle.carry.proofs.placing.place_all.Given as goal

abbrev pub invariant-loop-i : goal.invariant-loop-i
invariant-loop-i l = Placed l.i l.olds (λ j. get_or l.table j 0) l.initial.places l.places
