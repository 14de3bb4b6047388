-- The loop holds what is taken in so far and what is left of the part, and at its end nothing is left.
use native.Mathlib.Omega.{arith}
use Rattle.walks.proofs.Spreading.{spreading_start, spreading_done, spreading_next}
use Rattle.walks.proofs.queue.spread.Goals as goal

pub loop-i-init : goal.loop-i-init
loop-i-init c = spreading_start _ c.requires.queued c.requires.from_le_end.0

pub loop-i-preserved : goal.loop-i-preserved
loop-i-preserved c =
    spreading_next c.loop-i.invariant (omega arith) c.requires.from_le_end.1 _ c.at.ensures c.requires.n_le_max_states.3
    _ _ _ c.reach-e.ensures

pub returns : goal.returns
returns c = spreading_done c.loop-i.invariant (omega arith)
