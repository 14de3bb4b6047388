-- The test is the definition's.
use Rattle.nets.proofs.Keeping.{again_is}
use Rattle.nets.proofs.ranges.seed_again.Goals as goal

pub returns : goal.returns
returns c = rw c.then_some.ensures (again_is c.args.rank)
