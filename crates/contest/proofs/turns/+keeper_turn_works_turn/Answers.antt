-- The keeper's turn: it is sure, or command after command is tried, the works' turn being called with a move fewer. The works' turn: outcome
-- after outcome is tried, the keeper's turn being called where the memo does not know.
use mathlib.Core.Path.{◌≡◌, refl}
use Prim.Native.Nat.{ℕ, ◌<◌}
use native.Mathlib.Omega.{arith}
use Rattle.std.proofs.Common.{rules, true, false}
use Rattle.model.specs.Contest.{keeper_turn}
use Rattle.contest.specs.LaidPlans.{laid_as}
use Rattle.contest.specs.Memo.{Remembers}
use Rattle.contest.proofs.LaidPlans.{laid_commands}
use Rattle.contest.proofs.Memos.{told_turn, remembers_all}
use Rattle.contest.proofs.Trying.{trying_start, trying_next, trying_found, trying_done}
use Rattle.contest.proofs.Answering.{answering_start, answering_next, answering_found, answering_done}
use Rattle.contest.proofs.turns.+keeper_turn_works_turn.Goals.{works_turn-Joined-memo-memo_place, works_turn-in-Some, works_turn-in-None}
use Rattle.contest.proofs.turns.+keeper_turn_works_turn.Goals as goal

pub keeper_turn-overflow_sub-c-end : goal.keeper_turn-overflow_sub-c-end
keeper_turn-overflow_sub-c-end t c =
    let p = c.args.laid.now in
    let many = laid_commands p.checked.plan.size p.seeds.now p.froms.now p.tos.now p.checked.plan.firsts.now p.checked.plan.outcomes.now c.args.s in
    omega (arith, many, c.in_default.ensures.commands, c.at.ensures, c.at-2.ensures)

pub keeper_turn-loop-c-init : goal.keeper_turn-loop-c-init
keeper_turn-loop-c-init t c = trying_start c.requires.inside c.requires.told c.in_default.ensures _ _ c.at-2.ensures c.at.ensures

pub keeper_turn-returns-then-works_turn : goal.keeper_turn-returns-then-works_turn
keeper_turn-returns-then-works_turn t c =
    let w = trying_found c.loop-c.invariant _ c.memo_place-then-works_turn.ensures _ c.loop-c-test.true _ _
    (c.works_turn.ensures.turn, c.works_turn.ensures.remembers) c.if-works_turn.true refl in record { turn = w.0; remembers = w.1.0; knows = w.1.1 }

pub keeper_turn-loop-c-preserved : goal.keeper_turn-loop-c-preserved
keeper_turn-loop-c-preserved t c =
    let other : c.works_turn.result ≡ false = search rules in
    trying_next c.loop-c.invariant _ _ (c.works_turn.ensures.turn, c.works_turn.ensures.remembers) other

pub keeper_turn-returns : goal.keeper_turn-returns
keeper_turn-returns t c =
    let w = trying_done c.loop-c.invariant _ c.memo_place-2.ensures _ c.loop-c-test.false refl in record { turn = w.0; remembers = w.1.0; knows = w.1.1 }

pub works_turn-loop-i-init : goal.works_turn-loop-i-init
works_turn-loop-i-init t c =
    answering_start c.requires.inside c.requires.told _ _ _ c.at.ensures c.first_outcome-first.ensures c.first_outcome-end.ensures

-- the answer is the keeper's turn at the outcome, by the memo or as it was worked out
turn_at : (t : ℕ) (c : works_turn-Joined-memo-memo_place t) → let P = laid_as c.args.laid.now in
    (c.match-memo-memo_place.held ≡ keeper_turn P c.args.k c.at-next.result)
    × Remembers P c.args.laid.now.checked.plan.size.n c.loop-i.memo c.match-memo-memo_place.memo
turn_at t c =
    let w = c.loop-i.invariant in
    let inside : c.at-next.result < c.args.laid.now.checked.plan.size.n = omega (arith, w.states c.loop-i.i c.loop-i-test.true) in
    elim c.match-memo-memo_place.branch [
      | works_turn-in-Some b ↦
          let known = told_turn w.remembers.told _ _ inside w.few _ _ c.memo_place.ensures b.in-Some.is in
          let all = remembers_all w.remembers.told in
          rw (b.memo-is, b.held-is) (search rules)
      | works_turn-in-None b ↦ rw (b.memo-is, b.held-is) (b.keeper_turn-held.ensures.turn, b.keeper_turn-held.ensures.remembers)
    ]

pub works_turn-returns-then-not-held : goal.works_turn-returns-then-not-held
works_turn-returns-then-not-held t c =
    let (is, remembers) = turn_at t (goal.at.works_turn-returns-then-not-held t c).Joined-memo-memo_place in
    let w = answering_found c.loop-i.invariant c.loop-i-test.true _ c.at-next.ensures _ _ is remembers c.if-not-held.true in record { turn = w.0; remembers = w.1 }

pub works_turn-loop-i-preserved : goal.works_turn-loop-i-preserved
works_turn-loop-i-preserved t c =
    let (is, remembers) = turn_at t (goal.at.works_turn-loop-i-preserved t c).Joined-memo-memo_place in
    let stays : c.match-memo-memo_place.held ≡ true = search rules in
    answering_next c.loop-i.invariant c.loop-i-test.true _ c.at-next.ensures _ _ is remembers stays

pub works_turn-returns : goal.works_turn-returns
works_turn-returns t c =
    let w = answering_done c.loop-i.invariant c.loop-i-test.false in record { turn = w.0; remembers = w.1 }
