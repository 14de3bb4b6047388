-- A sound plan has a row for each of its states.
use Rattle.tables.proofs.SoundPlans.{plan_rows}
use Rattle.tables.proofs.sound_plan.SoundPlan.span.Goals as goal

pub span_at-requires : goal.span_at-requires
span_at-requires c = (c.requires, plan_rows c.args.self.now)
