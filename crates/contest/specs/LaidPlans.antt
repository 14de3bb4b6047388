-- The plan that a sound plan is laid out as.
use Rattle.model.specs.Plan.{Plan}
use Rattle.contest.specs.declared.laid.LaidPlan.{LaidPlan}
use Rattle.contest.specs.Laid.{laid_plan}

abbrev pub laid_as : LaidPlan → Plan
laid_as p = laid_plan p.checked.plan.size p.seeds.now p.froms.now p.tos.now p.checked.plan.firsts.now p.checked.plan.outcomes.now
