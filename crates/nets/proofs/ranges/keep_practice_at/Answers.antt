-- Each of the three tables gets one entry, which fits it.
use native.Mathlib.Omega.{arith}
use Rattle.nets.proofs.Initializing.{entry_fits}
use Rattle.nets.proofs.Keeping.{end_inside, again_small}
use Rattle.nets.proofs.ranges.keep_practice_at.Goals as goal

pub put-requires-2 : goal.put-requires-2
put-requires-2 c = (
  c.requires.s_in_bounds.2,
  rw (c.one_end-end.ensures, c.at-place.ensures, c.at.ensures)
      (omega (arith, end_inside _ _ c.requires.s_bound.0, c.requires.s_bound)),
)

pub put_option-requires-clause-fits : goal.put_option-requires-clause-fits
put_option-requires-clause-fits c = entry_fits _ (rw c.seed_again.ensures (again_small _))
