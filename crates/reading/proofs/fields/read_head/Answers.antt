-- Behind the frame the tests come in the order of `head`: each that fails is refused as beyond, and a head that passes them all is given.
use Rattle.reading.proofs.FieldWays.{head_long, head_none, head_many, head_start, head_passes}
use Rattle.reading.proofs.Passing.{refuses, ends, went}
use Rattle.reading.specs.Meaning.{head_mark, after_field}
use Rattle.tables.specs.declared.Refusal.TheVariants.{Beyond}
use Rattle.model.specs.File.{head}
use native.Mathlib.Omega.{arith}
use Rattle.reading.proofs.fields.read_head.Goals.{then-n-lt1-via-then-n-lt1, then-n-lt1-via-else-n-lt1+then-n-gt-STATES, then-n-lt1-via-else-n-lt1+else-n-gt-STATES+then-n-number}
use Rattle.reading.proofs.fields.read_head.Goals as goal

pub returns-in_default : goal.returns-in_default
unfolding head
returns-in_default c = ends _ _ _ _ c.in_default.is c.next-f.ensures

pub number-n-requires : goal.number-n-requires
number-n-requires c =
    let a = c.args in
    let w = went c.in-Ok.ensures in
    omega (arith, head_long a.file.now (after_field a.file.now head_mark) w.0)

pub returns-then-n-lt1 : goal.returns-then-n-lt1
returns-then-n-lt1 c =
    let a = c.args in
    let w = went c.in-Ok.ensures in
    refuses Beyond (elim c.then-n-lt1.branch [
      | then-n-lt1-via-then-n-lt1 v ↦ head_none a.file.now (after_field a.file.now head_mark) w.0 _ (omega (arith, c.number-n.ensures, v.if-n-lt1.true))
      | then-n-lt1-via-else-n-lt1+then-n-gt-STATES v ↦ head_many a.file.now (after_field a.file.now head_mark) w.0 _
          (omega (arith, c.number-n.ensures, v.if-n-lt1.false)) (omega (arith, c.number-n.ensures, v.if-n-gt-STATES.true))
      | then-n-lt1-via-else-n-lt1+else-n-gt-STATES+then-n-number v ↦ head_start a.file.now (after_field a.file.now head_mark) w.0 _
          (omega (arith, c.number-n.ensures, v.if-n-lt1.false)) (omega (arith, c.number-n.ensures, v.if-n-gt-STATES.false))
          (omega (arith, c.number-n.ensures, v.number.ensures, v.if-n-number.true))
    ])

pub number-requires : goal.number-requires
number-requires c =
    let a = c.args in
    let w = went c.in-Ok.ensures in
    omega (arith, head_long a.file.now (after_field a.file.now head_mark) w.0)

pub returns : goal.returns
returns c =
    let a = c.args in
    let w = went c.in-Ok.ensures in
    record {
      answers = head_passes a.file.now (after_field a.file.now head_mark) w.0
          (omega (arith, c.number-n.ensures, c.if-n-lt1.false))
          (omega (arith, c.number-n.ensures, c.if-n-gt-STATES.false))
          (omega (arith, c.number-n.ensures, c.number.ensures));
      stays = w.1;
    }
