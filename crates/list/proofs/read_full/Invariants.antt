-- Each read adds what it brought, so no more is left to read than the room.
use Rattle.std.proofs.Common.{length, ◌-◌, ◌≤◌}
use Rattle.list.proofs.read_full.Given as goal

abbrev pub invariant-loop-done : goal.invariant-loop-done
invariant-loop-done l = l.done ≤ length l.input

abbrev pub decreases-loop-done : goal.decreases-loop-done
decreases-loop-done l = length l.initial.input - l.done
