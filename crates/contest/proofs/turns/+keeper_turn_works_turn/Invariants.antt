-- What falls from call to call is twice the moves left, and one more at the works' turn; and what holds in the loops of the two.
use Prim.Native.Nat.{◌+◌, ◌*◌}
use Rattle.contest.proofs.Trying.{Trying}
use Rattle.contest.proofs.Answering.{Answering}
use Rattle.contest.proofs.turns.+keeper_turn_works_turn.Given as goal

abbrev pub decreases-keeper_turn : goal.decreases-keeper_turn
decreases-keeper_turn l = 2 * l.k

abbrev pub decreases-works_turn : goal.decreases-works_turn
decreases-works_turn l = 2 * l.k + 1

abbrev pub invariant-keeper_turn-loop-c : goal.invariant-keeper_turn-loop-c
invariant-keeper_turn-loop-c l = Trying l.laid l.k l.s l.c-end l.c l.initial.memo l.memo

abbrev pub invariant-works_turn-loop-i : goal.invariant-works_turn-loop-i
invariant-works_turn-loop-i l = Answering l.laid l.k l.s l.c l.end l.i l.initial.memo l.memo
