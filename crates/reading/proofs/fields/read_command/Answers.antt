-- Behind the frame the limit is tested, and then the outcomes, as in `command`.
use Prim.Native.Nat.{ℕ, ◌+◌, ◌/◌}
use Rattle.reading.proofs.FieldWays.{command_long, command_limit, command_walks}
use Rattle.reading.proofs.Passing.{refuses, ends, went}
use Rattle.reading.specs.Meaning.{bytes_from, after_field}
use Rattle.tables.specs.declared.Refusal.TheVariants.{Limit}
use Rattle.model.specs.File.{command}
use lib.ListN.{length-drop}
use native.Mathlib.Omega.{arith}
use mathlib.Core.Path.{ap}
use Rattle.reading.proofs.fields.read_command.Goals as goal

pub returns-in_default : goal.returns-in_default
unfolding command
returns-in_default c = ends _ _ _ _ c.in_default.is c.next-f.ensures

pub number-count-requires : goal.number-count-requires
number-count-requires c =
    let a = c.args in
    let w = went c.in-Ok.ensures in
    omega (arith, command_long (bytes_from a.file.now a.k) (after_field a.file.now a.k) w.0)

pub returns-then-k-count : goal.returns-then-k-count
returns-then-k-count c =
    let a = c.args in
    let w = went c.in-Ok.ensures in
    refuses Limit (command_limit (bytes_from a.file.now a.k) (after_field a.file.now a.k) w.0 _ _ _
    (omega (arith, c.number-count.ensures, c.requires)))

pub check_outcomes-requires : goal.check_outcomes-requires
check_outcomes-requires c =
    let a = c.args in
    let w = went c.in-Ok.ensures in
    omega (
      arith,
      w.1,
      c.requires,
      c.number-count.ensures,
      command_long (bytes_from a.file.now a.k)
          (after_field a.file.now a.k) w.0,
      length-drop a.k.at a.file.now,
      length-drop (a.k.at + 3) a.file.now,
    )

pub returns : goal.returns
returns c =
    let a = c.args in
    let w = went c.in-Ok.ensures in
    command_walks a.file.now a.k c.in-Ok.next a.n _ w.0 (ap (λ (z : ℕ). z / 2) c.number-count.ensures)
    (omega (arith, c.if-k-count.false, c.requires)) c.check_outcomes.ensures
