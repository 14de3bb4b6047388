-- The loop holds that the round is over at the places before i; a state stands in the queue once, so at place i it is still as it was.
use Rattle.tables.specs.Meaning.{lent}
use Rattle.tables.specs.Spans.{span_at}
use Rattle.search.specs.Marks.{marked_at}
use Rattle.search.specs.Settled.{Settled}
use Rattle.search.proofs.marks.settle.Given as goal

abbrev pub invariant-loop-i : goal.invariant-loop-i
invariant-loop-i l = Settled l.from l.i (λ x. marked_at (span_at (lent l.checked.plan) x) l.initial.commands l.initial.scratch x) l.queue
    l.initial.commands l.initial.scratch l.commands l.scratch
