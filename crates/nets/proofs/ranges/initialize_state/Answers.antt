-- Each of the four tables gets one entry, which fits it.
use native.Mathlib.Omega.{arith}
use Rattle.nets.proofs.Initializing.{entry_fits, seed_small, place_inside}
use Rattle.nets.proofs.ranges.initialize_state.Goals as goal

pub put_option-requires-clause-fits : goal.put_option-requires-clause-fits
put_option-requires-clause-fits c = entry_fits _ (rw c.seed_of.ensures (seed_small _))

pub put-requires-3 : goal.put-requires-3
put-requires-3 c = (
  omega (arith, c.requires.s_in_bounds),
  rw c.practice_place.ensures (omega (arith, place_inside c.args.span c.requires.first_le_end.0, c.requires.first_le_end)),
)
