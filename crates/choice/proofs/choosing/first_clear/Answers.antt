-- Every command from the first on has an outcome in the set when the loop comes to c, so the first that has none is the answer.
use mathlib.Core.Path.{◌∙◌}
use Rattle.laws.proofs.Tries.{first_next, first_stop}
use Rattle.choice.proofs.Outcomes.{hits_told}
use Rattle.choice.proofs.choosing.first_clear.Goals as goal

pub returns-then-is_none : goal.returns-then-is_none
returns-then-is_none c =
    first_stop c.loop-c.invariant _ c.loop-c-test.true (hits_told _ _ _ _ c.command_hit.ensures ∙ c.if-is_none.ensures)

pub loop-c-preserved : goal.loop-c-preserved
loop-c-preserved c = first_next c.loop-c.invariant (hits_told _ _ _ _ c.command_hit.ensures ∙ c.if-is_none.ensures)
