-- The invariant is that the states left to fill make the tables what all the states make them; a turn takes one state off what is left.
use Rattle.reading.proofs.FillStates.{Turn, filling_turn, filling_more, filling_left, filling_over}
use native.Mathlib.Omega.{arith}
use Rattle.reading.proofs.fill.fill_states.Goals.{In-loop-i}
use Rattle.reading.proofs.fill.fill_states.Goals as goal

turn : (c : In-loop-i)
    → Turn c.args.file.now c.loop-i.rows c.loop-i.firsts
    c.loop-i.outcomes c.loop-i.i c.loop-i.k
turn c =
    let a = c.args in
    filling_turn a.file.now a.n c.loop-i.i c.loop-i.k c.loop-i.invariant.1 c.loop-i-test.true

pub row_in-requires : goal.row_in-requires
row_in-requires c = let t = turn (goal.at.row_in-requires c).In-loop-i in (t.some, omega (arith, t.few))

pub put_row-requires : goal.put_row-requires
put_row-requires c = (turn (goal.at.put_row-requires c).In-loop-i).row

pub fill_state-k-requires : goal.fill_state-k-requires
fill_state-k-requires c = let t = turn (goal.at.fill_state-k-requires c).In-loop-i in (t.inside, t.room)

pub loop-i-preserved : goal.loop-i-preserved
loop-i-preserved c =
    let a = c.args in
    let l = c.loop-i in (
      omega (arith, c.loop-i-test.true),
      filling_more a.file.now a.n l.i l.k l.invariant.1 c.loop-i-test.true c.row_in.ensures
          c.put_row.ensures
          c.fill_state-k.ensures.firsts c.fill_state-k.ensures.outcomes
          c.fill_state-k.ensures.mark,
    )

pub returns : goal.returns
returns c =
    let a = c.args in
    let w = filling_over (filling_left a.file.now a.n c.loop-i.i c.loop-i.k c.loop-i.invariant.1
    c.loop-i-test.false) in record { rows = w.0; firsts = w.1.0; outcomes = w.1.1 }
