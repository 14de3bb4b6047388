-- The state field and the fields of its commands are put one behind the other, and what is read of a sound plan's state fits.
use native.Mathlib.Omega.{arith}
use Rattle.tables.specs.Meaning.{lent}
use Rattle.writing.proofs.StateFacts.{state_is, state_length, state_fits}
use Rattle.writing.proofs.Puts.{put_then}
use Rattle.writing.proofs.states.write_state.Goals as goal

pub write_row-requires : goal.write_row-requires
write_row-requires c =
    let T = lent c.args.checked.now.plan in record {
      room = omega (arith, c.requires.room, state_length T c.args.s c.span-span.ensures);
      fits = (state_fits T c.args.s c.span-span.ensures c.args.checked.now.sounds c.requires.inside).0;
    }

pub write_commands-requires : goal.write_commands-requires
write_commands-requires c =
    let T = lent c.args.checked.now.plan in record {
      inside = (state_fits T c.args.s c.span-span.ensures c.args.checked.now.sounds c.requires.inside).1;
      room = omega (arith, c.requires.room, state_length T c.args.s c.span-span.ensures, c.write_row.ensures.past, c.write_row.ensures.keeps);
    }

pub returns : goal.returns
returns c =
    rw (state_is (lent c.args.checked.now.plan) c.args.s c.span-span.ensures)
    (put_then c.write_row.ensures c.write_commands.ensures)
