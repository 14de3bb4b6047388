-- The tests decide as the definition does. Where they pass, the plan is laid out in tables of numbers, and the keeper's turn on them is the
-- plan's.
use mathlib.Core.Path.{◌≡◌, sym, ap, ◌∙◌}
use Rattle.model.specs.Refusal.{given}
use Rattle.model.specs.Contest.{contest_call}
use Rattle.model.proofs.ContestCalls.{contested}
use Rattle.tables.specs.Meaning.{lent}
use Rattle.tables.proofs.SoundPlans.{plan_ready}
use Rattle.nets.proofs.Settings.{sound_spans}
use Rattle.contest.proofs.Laying.{laid_turn}
use Rattle.contest.proofs.Admitted.{admitted_inside, admitted_unknown, admitted_laid, admitted_told}
use Rattle.contest.proofs.contest.Goals.{After-keeper_turn}
use Rattle.contest.proofs.contest.Goals as goal

pub initialize-requires : goal.initialize-requires
initialize-requires c =
    let p = c.in_ok-checked.checked in
    let few = (plan_ready p).few in record { spans = sound_spans p; n_in_bounds = (few, few, few, few) }

pub invariant_of-laid : goal.invariant_of-laid
invariant_of-laid c = record { laid = admitted_laid c.in_ok-checked.checked (c.initialize.ensures _ _) }

pub keeper_turn-requires : goal.keeper_turn-requires
keeper_turn-requires c =
    let p = c.in_ok-checked.checked in record {
      inside = admitted_inside p _ _ c.in_ok-admit.ensures;
      told = admitted_told p (c.initialize.ensures _ _);
      unknown = admitted_unknown p _ _ c.in_ok-admit.ensures;
    }

answers : (c : After-keeper_turn) → contest_call (lent c.args.plan.now) c.args.state c.args.moves ≡ given c.keeper_turn.result
answers c =
    let p = c.in_ok-checked.checked in
    let turn = laid_turn _ _ _ _ p.sounds (c.initialize.ensures _ _) c.args.moves c.args.state (admitted_inside p _ _ c.in_ok-admit.ensures).0 in
    let told = c.in_ok-admit.ensures ∙ ap given (sym (c.keeper_turn.ensures.turn ∙ turn)) in
    rw c.in_ok-checked.ensures at told

pub returns : goal.returns
returns c =
    let e = answers (goal.at.returns c).After-keeper_turn in record { call = sym e; contested = λ answer f. contested _ _ _ answer (e ∙ f) }
