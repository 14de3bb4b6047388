-- The test is the definition's.
use Rattle.nets.proofs.Initializing.{seed_is}
use Rattle.nets.proofs.ranges.seed_of.Goals as goal

pub returns : goal.returns
returns c = rw c.then_some.ensures (seed_is c.args.span _ c.is_failing.ensures)
