-- Tag, length and outcomes are put one behind the other, and that is the field of a command with these outcomes.
use mathlib.Core.Path.{◌≡◌}
use mathlib.Core.List.{[], ◌∷◌}
use Rattle.model.specs.Bytes.{commands_bytes}
use Rattle.model.specs.Places.{outcomes_at}
use Prim.Native.Nat.{◌+◌, ◌-◌, ◌*◌, ◌≤◌}
use lib.ListN.{length}
use native.Mathlib.Omega.{arith}
use Rattle.model.specs.File.{max_outcomes}
use Rattle.tables.specs.Meaning.{lent}
use Rattle.tables.proofs.SoundPlans.{plan_ready}
use Rattle.writing.proofs.CommandFacts.{outcomes_inside, outcomes_length, command_is, command_length}
use Rattle.writing.proofs.Puts.{put_then}
use Rattle.writing.proofs.fields.write_command.Goals.{After-first_outcome-to}
use Rattle.writing.proofs.fields.write_command.Goals as goal

inside : (c : After-first_outcome-to) → (c.first_outcome-from.result ≤ c.first_outcome-to.result) × (c.first_outcome-to.result ≤ max_outcomes)
    × (c.first_outcome-to.result ≤ length c.args.checked.now.plan.outcomes.now)
inside c = outcomes_inside (plan_ready c.args.checked.now) c.requires.inside c.first_outcome-from.ensures c.first_outcome-to.ensures

long : (c : After-first_outcome-to)
    → length (commands_bytes (outcomes_at (lent c.args.checked.now.plan) c.args.c ∷ []) [])
    ≡ 3 + (c.first_outcome-to.result - c.first_outcome-from.result) * 2
long c = command_length (plan_ready c.args.checked.now) c.requires.inside c.first_outcome-from.ensures c.first_outcome-to.ensures

pub overflow_add-c : goal.overflow_add-c
overflow_add-c c = omega (arith, c.requires.inside, (plan_ready c.args.checked.now).few_commands)

pub put_byte-requires : goal.put_byte-requires
put_byte-requires c = omega (arith, c.requires.room, long (goal.at.put_byte-requires c).After-first_outcome-to)

pub overflow_sub-to : goal.overflow_sub-to
overflow_sub-to c = (inside (goal.at.overflow_sub-to c).After-first_outcome-to).0

pub overflow_mul-to : goal.overflow_mul-to
overflow_mul-to c = omega (arith, inside (goal.at.overflow_mul-to c).After-first_outcome-to)

pub overflow_cast-to : goal.overflow_cast-to
overflow_cast-to c = omega (arith, inside (goal.at.overflow_cast-to c).After-first_outcome-to)

pub put_number-requires : goal.put_number-requires
put_number-requires c = omega (arith, c.requires.room, long (goal.at.put_number-requires c).After-first_outcome-to)

pub offset_bounds-checked-from : goal.offset_bounds-checked-from
offset_bounds-checked-from c = omega (arith, inside (goal.at.offset_bounds-checked-from c).After-first_outcome-to)

pub slice_bounds-put_numbers-count : goal.slice_bounds-put_numbers-count
slice_bounds-put_numbers-count c = (inside (goal.at.slice_bounds-put_numbers-count c).After-first_outcome-to).0

pub slice_bounds-put_numbers-start : goal.slice_bounds-put_numbers-start
slice_bounds-put_numbers-start c = (inside (goal.at.slice_bounds-put_numbers-start c).After-first_outcome-to).0

pub slice_bounds-put_numbers-end : goal.slice_bounds-put_numbers-end
slice_bounds-put_numbers-end c = (inside (goal.at.slice_bounds-put_numbers-end c).After-first_outcome-to).2

pub put_numbers-requires : goal.put_numbers-requires
put_numbers-requires c =
    let w = (goal.at.put_numbers-requires c).After-first_outcome-to in
    omega (
      arith,
      c.requires.room,
      long w,
      outcomes_length (plan_ready c.args.checked.now) c.requires.inside c.first_outcome-from.ensures c.first_outcome-to.ensures,
    )

pub returns : goal.returns
returns c =
    rw (command_is (plan_ready c.args.checked.now) c.requires.inside c.first_outcome-from.ensures c.first_outcome-to.ensures)
    (put_then c.put_byte.ensures (put_then c.put_number.ensures c.put_numbers.ensures))
