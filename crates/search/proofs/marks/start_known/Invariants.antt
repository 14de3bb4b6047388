-- The loop holds that the places below s have their flag.
use Rattle.laws.specs.Filled.{Filled}
use Rattle.tables.specs.Meaning.{lent}
use Rattle.tables.specs.Spans.{span_at}
use Rattle.search.specs.Marks.{start_flag}
use Rattle.search.proofs.marks.start_known.Given as goal

abbrev pub invariant-loop-s : goal.invariant-loop-s
invariant-loop-s l = Filled l.s (λ x. start_flag (span_at (lent l.checked.plan) x)) l.initial.scratch l.scratch
