-- A look at a command that its state does not watch changes nothing; else the state watches the next clear command, or is lost.
use native.Mathlib.Omega.{arith}
use Prim.Native.Nat.{◌<◌}
use Rattle.laws.proofs.Tests.{clash}
use Rattle.propagate.specs.Plans.{states_of}
use Rattle.propagate.proofs.Counting.{queue_room}
use Rattle.propagate.proofs.Plans.{ranged_ready}
use Rattle.propagate.proofs.Visits.{look_idle, look_moved, look_lost}
use Rattle.propagate.proofs.layers.visit.Goals.{Else-not-watches}
use Rattle.propagate.proofs.layers.visit.Goals as goal

pub returns-then-not-watches : goal.returns-then-not-watches
returns-then-not-watches c =
    look_idle _ (ranged_ready c.args.ranged.now) _ _ c.args.ranged.now.ranges _ c.requires.c_in_bounds.1 _ _ _ _ c.requires.queue_bound _ _
    c.owner_of-s.ensures.read (omega arith) (λ e z l. clash (c.watches.ensures.1 (e, z, l)) c.if-not-watches.true)

place_left : (c : Else-not-watches) → c.args.end < states_of c.args.ranged.now
place_left c =
    queue_room _ _ _ _ _ c.requires.queue_bound c.owner_of-s.result c.owner_of-s.ensures.inside (c.watches.ensures.0 c.if-not-watches.false).0

pub put-requires : goal.put-requires
put-requires c =
    let R = ranged_ready c.args.ranged.now in
    omega (arith, c.first_clear-next.ensures.until, c.requires.room.for_watch, R.few_commands)

pub returns-then-clear : goal.returns-then-clear
returns-then-clear c =
    let w = c.watches.ensures.0 c.if-not-watches.false in
    look_moved _ (ranged_ready c.args.ranged.now) _ _ c.args.ranged.now.ranges _ c.requires.c_in_bounds.1 _ _ _ _ c.requires.queue_bound _ _
    c.owner_of-s.ensures.read (omega arith) w.0 w.1 w.2 c.requires.room _ c.end_of-to.ensures.read _ c.first_clear-next.ensures c.if-clear.true _ c.put.ensures

pub put-requires-3 : goal.put-requires-3
put-requires-3 c =
    omega (arith, place_left (goal.at.put-requires-3 c).Else-not-watches, c.requires.room.for_queue, (ranged_ready c.args.ranged.now).few)

pub overflow_add-result : goal.overflow_add-result
overflow_add-result c =
    omega (arith, place_left (goal.at.overflow_add-result c).Else-not-watches, (ranged_ready c.args.ranged.now).few)

pub returns : goal.returns
returns c =
    let w = c.watches.ensures.0 c.if-not-watches.false in
    look_lost _ (ranged_ready c.args.ranged.now) _ _ c.args.ranged.now.ranges _ c.requires.c_in_bounds.1 _ _ _ _ c.requires.queue_bound _ _
    c.owner_of-s.ensures.read (omega arith) w.0 w.1 w.2 c.requires.room _ c.end_of-to.ensures.read _ c.first_clear-next.ensures c.if-clear.false _ _ _
    c.put.ensures c.put-2.ensures c.put-3.ensures
