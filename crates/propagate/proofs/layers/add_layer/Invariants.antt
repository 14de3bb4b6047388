-- When the walk comes to place h of the queue, the states that waited before it have been spread, and what they lose has its rank.
use Rattle.propagate.proofs.LayerSteps.{LayerStep}
use Rattle.propagate.specs.Progress.{progress}
use Rattle.tables.specs.Listed.{lists_of}
use Rattle.propagate.specs.Plans.{states_of}
use Rattle.propagate.proofs.layers.add_layer.Given as goal

abbrev pub invariant-loop-h : goal.invariant-loop-h
invariant-loop-h l = LayerStep (states_of l.ranged) (lists_of l.ranged.indexed.lists) l.ranged.tos.now l.ranged.indexed.owner.now l.k l.lo
    (progress l.initial.ranks l.initial.watch l.initial.queue l.hi) l.h (progress l.ranks l.watch l.queue l.e)
