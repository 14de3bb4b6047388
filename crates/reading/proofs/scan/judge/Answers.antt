-- Head, states and end field come one after another as in `read`: each refusal is its own, and what is past the end is a surplus.
use Rattle.reading.proofs.Scanning.{head_room, file_stops, end_stops, file_surplus, file_read}
use Rattle.reading.proofs.Passing.{went, ends, refuses}
use Rattle.tables.specs.declared.Refusal.TheVariants.{Surplus}
use Rattle.model.specs.File.{read}
use native.Mathlib.Omega.{arith}
use Rattle.reading.proofs.scan.judge.Goals as goal

pub returns-in_default : goal.returns-in_default
unfolding read
returns-in_default c = ends _ _ _ _ c.in_default.is c.read_head-h.ensures

pub number-requires : goal.number-requires
number-requires c =
    let x = went c.in-Ok.ensures in
    omega (arith, head_room c.args.file.now c.in-Ok.first x.0)

pub returns-in_default-s : goal.returns-in_default-s
returns-in_default-s c =
    let x = went c.in-Ok.ensures in
    file_stops c.args.file.now c.in-Ok.first x.0 c.number.ensures c.in_default-s.is
    c.scan_states-s.ensures

pub returns-in_default-e : goal.returns-in_default-e
returns-in_default-e c =
    let x = went c.in-Ok.ensures in
    let y = went c.in-Ok-s.ensures in
    end_stops c.args.file.now c.in-Ok.first x.0 c.number.ensures c.in-Ok-s.last y.0
    c.in_default-e.is c.next-e.ensures

pub returns-then-remaining-gt0 : goal.returns-then-remaining-gt0
returns-then-remaining-gt0 c =
    let x = went c.in-Ok.ensures in
    let y = went c.in-Ok-s.ensures in
    let z = went c.in-Ok-e.ensures in
    refuses Surplus (file_surplus c.args.file.now c.in-Ok.first x.0 c.number.ensures
    c.in-Ok-s.last y.0 c.in-Ok-e.end z.0 (omega (arith, c.remaining.ensures)))

pub returns : goal.returns
returns c =
    let x = went c.in-Ok.ensures in
    let y = went c.in-Ok-s.ensures in
    let z = went c.in-Ok-e.ensures in
    record {
      answers = file_read c.args.file.now c.in-Ok.first x.0 c.number.ensures
          c.in-Ok-s.last y.0 c.in-Ok-e.end z.0 (omega (arith, c.remaining.ensures));
      stays = z.1;
    }
