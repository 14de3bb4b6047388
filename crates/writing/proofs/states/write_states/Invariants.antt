-- When the loop comes to state s, the fields of the states before it and of their commands are put, and there is room for the rest.
use Rattle.model.specs.Held.{state_at}
use Rattle.model.specs.Bytes.{states_bytes}
use Rattle.tables.specs.Meaning.{lent}
use Rattle.writing.proofs.Puts.{Putting}
use Rattle.writing.proofs.states.write_states.Given as goal

abbrev pub invariant-loop-s : goal.invariant-loop-s
invariant-loop-s l = Putting states_bytes (state_at (lent l.checked.plan)) l.checked.plan.size.n 0 l.initial.out l.out l.s
