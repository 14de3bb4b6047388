-- The flag is 0 where the state counts as failing and 1 elsewhere.
use Rattle.search.proofs.MarkTests.{flag_told}
use Rattle.search.proofs.marks.start_flag.Goals as goal

pub returns : goal.returns
returns c = flag_told _ _ c.is_failing.ensures _ c.from.ensures
