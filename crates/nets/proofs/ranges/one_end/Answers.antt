-- The two branches are the two cases of the definition.
use Rattle.nets.proofs.Keeping.{end_one, end_none}
use Rattle.nets.proofs.ranges.one_end.Goals as goal

pub returns-then-from-to : goal.returns-then-from-to
returns-then-from-to c = end_one _ _ c.if-from-to.true

pub returns-else-from-to : goal.returns-else-from-to
returns-else-from-to c = end_none _ _ c.if-from-to.false
