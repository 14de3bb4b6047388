-- The loop holds that all places from q on go; it stops at the first from the end that stays, or at the start.
use native.Mathlib.Omega.{arith}
use Rattle.search.proofs.Cutting.{cut_first, cut_here, cutting_next}
use Rattle.search.proofs.marks.kept.Goals as goal

pub returns-then-at-low : goal.returns-then-at-low
returns-then-at-low c =
    cut_here c.loop-q.invariant _ (omega (arith, c.loop-q-test.true)) _ c.at.ensures _ c.at-in-loop-q.ensures c.if-at-low.true

pub loop-q-preserved : goal.loop-q-preserved
loop-q-preserved c =
    cutting_next c.loop-q.invariant _ (omega (arith, c.loop-q-test.true)) _ c.at.ensures _ c.at-in-loop-q.ensures c.loop-q-test.true
    c.if-at-low.false

pub returns : goal.returns
returns c = cut_first c.loop-q.invariant c.loop-q-test.false
