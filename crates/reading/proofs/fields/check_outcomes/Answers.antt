-- The invariant is that the entries left rise from the last one on exactly if all entries rise; each refusal is that of the entry looked
-- at.
use Rattle.reading.proofs.FieldWays.{outcomes_beyond, outcomes_unsorted, outcomes_more, outcomes_rise}
use Rattle.reading.proofs.Passing.{refuses}
use Rattle.tables.specs.declared.Refusal.TheVariants.{Beyond, Unsorted}
use Rattle.model.specs.Refusal.{answer}
use lib.ListN.{drop}
use native.Mathlib.Omega.{arith}
use mathlib.Core.Path.{ap, sym}
use Rattle.reading.proofs.fields.check_outcomes.Goals as goal

pub returns-then-n-o : goal.returns-then-n-o
returns-then-n-o c =
    let a = c.args in
    refuses Beyond (outcomes_beyond a.n (drop a.at a.file.now) a.count c.loop-i.low c.loop-i.i c.loop-i.invariant.1
    c.loop-i-test.true c.number-o.ensures _ c.if-n-o.true)

pub returns-then-o-low : goal.returns-then-o-low
returns-then-o-low c =
    let a = c.args in
    refuses Unsorted (outcomes_unsorted a.n (drop a.at a.file.now) a.count c.loop-i.low c.loop-i.i
    c.loop-i.invariant.1 c.loop-i-test.true c.number-o.ensures _ c.if-n-o.false
    c.if-o-low.true)

pub loop-i-preserved : goal.loop-i-preserved
loop-i-preserved c =
    let a = c.args in (
      omega arith,
      outcomes_more a.n (drop a.at a.file.now) a.count c.loop-i.low c.loop-i.i c.loop-i.invariant.1
          c.loop-i-test.true c.number-o.ensures c.if-n-o.false c.if-o-low.false,
    )

pub returns : goal.returns
unfolding answer
returns c =
    let a = c.args in
    record {
      answers = sym (ap (answer _)
          (outcomes_rise a.n (drop a.at a.file.now) a.count c.loop-i.low c.loop-i.i
          c.loop-i.invariant.1
          c.loop-i-test.false));
      stays = c.requires.0;
    }
