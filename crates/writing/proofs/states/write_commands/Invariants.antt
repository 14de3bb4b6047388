-- When the loop comes to command c, the fields of the commands before it are put, and there is room for the rest.
use Rattle.model.specs.Places.{outcomes_at}
use Rattle.model.specs.Bytes.{commands_bytes}
use Rattle.tables.specs.Meaning.{lent}
use Rattle.writing.proofs.Puts.{Putting}
use Rattle.writing.proofs.states.write_commands.Given as goal

abbrev pub invariant-loop-c : goal.invariant-loop-c
invariant-loop-c l = Putting commands_bytes (outcomes_at (lent l.checked.plan)) l.end l.fn.first l.initial.out l.out l.c
