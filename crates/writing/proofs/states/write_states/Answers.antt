-- When the loop comes to state s, the fields of the states before it and of their commands are put, and there is room for the rest.
use native.Mathlib.Nat.{sub-zero}
use Rattle.writing.proofs.Spreads.{states_spread}
use Rattle.writing.proofs.Puts.{putting_room, putting_next, putting_done}
use Rattle.writing.proofs.states.write_states.Goals as goal

pub write_state-requires-clause-room : goal.write_state-requires-clause-room
write_state-requires-clause-room c = putting_room states_spread c.loop-s.invariant c.loop-s-test.true

pub loop-s-preserved : goal.loop-s-preserved
loop-s-preserved c = putting_next states_spread c.loop-s.invariant c.loop-s-test.true c.write_state.ensures

pub returns : goal.returns
returns c = rw sub-zero at (putting_done states_spread c.loop-s.invariant c.loop-s-test.false)
