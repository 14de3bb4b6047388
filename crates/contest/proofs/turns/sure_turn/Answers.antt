-- A failing state is not held; one at rest is, and any other with no moves left. Otherwise commands have to be tried.
use mathlib.Core.Path.{sym}
use native.Mathlib.Omega.{arith}
use Rattle.model.proofs.Contests.{turn_fails, turn_rests, turn_last}
use Rattle.contest.proofs.LaidPlans.{laid_commands, laid_fails, laid_stands, laid_rests, laid_tries}
use Rattle.contest.proofs.turns.sure_turn.Goals as goal

pub returns-then-at-eq0 : goal.returns-then-at-eq0
returns-then-at-eq0 c = sym (turn_fails _ _ _ (laid_fails _ _ _ _ _ _ _ _ c.at.ensures c.if-at-eq0.true))

pub returns-then-at : goal.returns-then-at
returns-then-at c =
    sym (turn_rests _ _ _ (laid_stands _ _ _ _ _ _ _ _ c.at.ensures c.if-at-eq0.false)
    (laid_rests _ _ _ _ _ _ _ _ c.at.ensures c.if-at-eq0.false _ _ c.at-3.ensures c.at-2.ensures (omega (arith, c.if-at.true))))

pub returns-then-k-eq0 : goal.returns-then-k-eq0
returns-then-k-eq0 c = sym (turn_last _ _ _ c.if-k-eq0.true (laid_stands _ _ _ _ _ _ _ _ c.at.ensures c.if-at-eq0.false))

pub returns : goal.returns
returns c = record {
  moves = omega (arith, c.if-k-eq0.false);
  stands = laid_stands _ _ _ _ _ _ _ _ c.at.ensures c.if-at-eq0.false;
  tries = laid_tries _ _ _ _ _ _ _ _ c.at.ensures c.if-at-eq0.false _ _ c.at-3.ensures c.at-2.ensures (omega (arith, c.if-at.false));
  commands =
      let p = c.args.laid.now in
      let many = laid_commands p.checked.plan.size p.seeds.now p.froms.now p.tos.now p.checked.plan.firsts.now p.checked.plan.outcomes.now c.args.s in
      omega (arith, many, c.at-3.ensures, c.at-2.ensures, c.if-at.false);
}
