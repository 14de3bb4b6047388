-- When the loop comes to state s, the states of rank 0 before it wait in the queue.
use Rattle.propagate.specs.Progress.{SeedsQueued}
use Rattle.propagate.proofs.layers.enqueue_seeds.Given as goal

abbrev pub invariant-loop-s : goal.invariant-loop-s
invariant-loop-s l = SeedsQueued l.ranks l.queue l.s l.e
