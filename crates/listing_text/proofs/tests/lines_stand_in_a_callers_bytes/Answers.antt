-- The first line leaves room for the second, since the bytes lent stay as many.
use native.Mathlib.Omega.{arith}
use Rattle.listing_text.proofs.tests.lines_stand_in_a_callers_bytes.Goals as goal

pub put_state_line-requires : goal.put_state_line-requires
put_state_line-requires g c = (omega arith, omega arith, omega arith)

pub put_start_line-requires : goal.put_start_line-requires
put_start_line-requires g c = (omega (arith, c.put_state_line.ensures.lent.keeps, c.put_state_line.ensures.ends), omega arith, omega arith)
