-- The tests decide as the definition does. Where they pass, the propagations leave the ranks, and the state's entry among them is read as
-- its rank.
use mathlib.Core.Path.{◌≡◌, sym, ap, ◌∙◌}
use Rattle.model.specs.Refusal.{given}
use Rattle.model.specs.Warning.{warning_call}
use Rattle.model.proofs.WarningCalls.{warned}
use Rattle.tables.specs.Meaning.{lent}
use Rattle.tables.proofs.SoundPlans.{plan_ready}
use Rattle.warning.specs.Answers.{limit_of}
use Rattle.warning.proofs.Admitted.{admitted_bounds, admitted_rank, admitted_gives}
use Rattle.warning.proofs.warning_time.Goals.{After-warning}
use Rattle.warning.proofs.warning_time.Goals as goal

pub propagate_plan-requires : goal.propagate_plan-requires
propagate_plan-requires c = let few = (plan_ready c.in_ok-checked.checked).few in (few, few, few, few)

pub warning-requires : goal.warning-requires
warning-requires c =
    let p = c.in_ok-checked.checked in record {
      state_in_bounds = admitted_bounds p _ _ c.in_ok-admit.ensures c.propagate_plan.ensures;
      by_index = admitted_rank p _ _ c.in_ok-admit.ensures c.propagate_plan.ensures;
    }

answers : (c : After-warning) → warning_call (lent c.args.plan.now) c.args.state c.args.seconds ≡ given (limit_of c.warning.result)
answers c =
    let gives = admitted_gives c.in_ok-checked.checked _ _ c.in_ok-admit.ensures c.propagate_plan.ensures in
    rw c.in_ok-checked.ensures at gives ∙ ap given (sym c.warning.ensures)

pub returns : goal.returns
returns c = record { call = sym (answers c); warned = λ answer e. warned _ _ _ answer (answers c ∙ e) }
