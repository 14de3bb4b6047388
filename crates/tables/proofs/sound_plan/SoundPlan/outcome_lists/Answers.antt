-- The outcomes of a sound plan are ready.
use Rattle.tables.proofs.SoundPlans.{plan_ready}
use Rattle.tables.proofs.sound_plan.SoundPlan.outcome_lists.Goals as goal

pub invariant_of-result : goal.invariant_of-result
invariant_of-result c =
    let r = plan_ready c.args.self.now in record { long = (r.long_firsts, r.states.long) }

pub invariant_of-result-2 : goal.invariant_of-result-2
invariant_of-result-2 c = record { ready = plan_ready c.args.self.now }
