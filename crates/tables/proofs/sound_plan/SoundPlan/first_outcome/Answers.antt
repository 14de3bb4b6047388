-- A sound plan has a first outcome for each of its commands.
use Rattle.tables.proofs.SoundPlans.{plan_ready}
use Rattle.tables.proofs.sound_plan.SoundPlan.first_outcome.Goals as goal

pub start_of-requires : goal.start_of-requires
start_of-requires c = (plan_ready c.args.self.now).long_firsts
