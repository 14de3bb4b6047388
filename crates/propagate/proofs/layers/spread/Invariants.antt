-- When the walk comes to place p of the group, the commands before it have been looked at, and each look leads on towards the layer.
use Rattle.propagate.specs.Plans.{Moves}
use Rattle.propagate.specs.Progress.{progress, Among}
use Rattle.propagate.proofs.layers.spread.Given as goal

abbrev pub invariant-loop-p : goal.invariant-loop-p
invariant-loop-p l = Moves l.ranged l.k (Among l.ranged.indexed.users.now l.initial.p l.p) (progress l.initial.ranks l.initial.watch l.initial.queue l.end)
    (progress l.ranks l.watch l.queue l.e)
