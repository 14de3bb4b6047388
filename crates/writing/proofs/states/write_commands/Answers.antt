-- When the loop comes to command c, the fields of the commands before it are put, and there is room for the rest.
use Rattle.writing.proofs.Spreads.{commands_spread}
use Rattle.writing.proofs.Puts.{putting_room, putting_next, putting_done}
use Rattle.writing.proofs.states.write_commands.Goals as goal

pub write_command-requires-clause-room : goal.write_command-requires-clause-room
write_command-requires-clause-room c = putting_room commands_spread c.loop-c.invariant c.loop-c-test.true

pub loop-c-preserved : goal.loop-c-preserved
loop-c-preserved c = putting_next commands_spread c.loop-c.invariant c.loop-c-test.true c.write_command.ensures

pub returns : goal.returns
returns c = putting_done commands_spread c.loop-c.invariant c.loop-c-test.false
