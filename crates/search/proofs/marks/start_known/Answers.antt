-- The loop holds that the places below s have their flag.
use mathlib.Core.Path.{ap, ◌∙◌}
use native.Mathlib.Omega.{arith}
use Rattle.laws.proofs.Fills.{filled_next}
use Rattle.search.specs.Marks.{start_flag}
use Rattle.search.proofs.marks.start_known.Goals as goal

pub loop-s-preserved : goal.loop-s-preserved
loop-s-preserved c =
    filled_next c.loop-s.invariant (omega arith) _ (c.start_flag.ensures.0 ∙ ap start_flag c.span.ensures) _ c.put.ensures
