-- After each turn one layer more has its ranks, and its new states wait in the queue; when none waits, no further layer adds one.
use Rattle.propagate.proofs.Ends.{Going}
use Rattle.tables.specs.Listed.{lists_of}
use Rattle.propagate.specs.Plans.{states_of}
use Prim.Native.Nat.{◌-◌}
use Rattle.propagate.proofs.layers.propagate.Given as goal

abbrev pub invariant-loop-lo : goal.invariant-loop-lo
invariant-loop-lo l = Going (states_of l.ranged) (lists_of l.ranged.indexed.lists) l.ranged.tos.now l.initial.ranks l.initial.watch l.ranks l.watch l.queue l.lo l.hi l.k

abbrev pub decreases-loop-lo : goal.decreases-loop-lo
decreases-loop-lo l = states_of l.ranged - l.lo
