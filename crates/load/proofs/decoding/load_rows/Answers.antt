-- The invariant is that the rows left to load make the table what all of them make it.
use Rattle.load.proofs.LoadRows.{rows_more, rows_end}
use native.Mathlib.Omega.{arith}
use Rattle.load.proofs.decoding.load_rows.Goals as goal

pub loop-s-preserved : goal.loop-s-preserved
loop-s-preserved c = (
  omega (arith, c.loop-s-test.true),
  rows_more _ c.args.n c.loop-s.s c.loop-s.invariant.1 c.loop-s-test.true c.row_in.ensures c.put_row.ensures,
)

pub returns : goal.returns
returns c = rows_end _ c.args.n c.loop-s.s c.loop-s.invariant.1 c.requires.0 c.requires.1 c.loop-s-test.false
