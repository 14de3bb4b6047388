-- The loop holds what is taken in so far and what is left of the part, and at its end nothing is left.
use Rattle.walks.proofs.Spreading.{Spreading}
use Rattle.walks.proofs.queue.spread.Given as goal

abbrev pub invariant-loop-i : goal.invariant-loop-i
invariant-loop-i l =
    Spreading l.n l.from l.end l.mark l.q l.outcomes l.initial.flags l.initial.queue l.i l.e l.flags
    l.queue
