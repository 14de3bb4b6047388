-- Each turn writes one outcome under its new number, at the next place.
use lib.ListN.{get_or}
use Rattle.trim.proofs.Mapped.{Mapped}
use Rattle.trim.proofs.copying.copy_outcomes.Given as goal

abbrev pub invariant-loop-i : goal.invariant-loop-i
invariant-loop-i l = Mapped (λ x. get_or l.numbers x 0) l.copied l.t l.initial.outcomes2 l.i l.outcomes2
