-- The lines are put one behind another, and together they are the text of the plan.
use native.Mathlib.Omega.{arith}
use Rattle.tables.specs.Meaning.{lent}
use Rattle.listing.proofs.PlanLines.{numbers_small, verdicts_fit, start_fits, plan_put}
use Rattle.listing.proofs.plan.list_plan.Goals as goal

pub put_plan_line-requires : goal.put_plan_line-requires
put_plan_line-requires c =
    let p = c.args.checked.now in
    let small = numbers_small (lent p.plan) p.sounds in
    (omega (arith, c.requires), small.0, small.1, small.2)

pub list_verdicts-requires : goal.list_verdicts-requires
list_verdicts-requires c =
    let p = c.args.checked.now in
    verdicts_fit (lent p.plan) p.sounds c.requires c.put_plan_line.ensures.wrote

pub list_start-requires : goal.list_start-requires
list_start-requires c =
    let p = c.args.checked.now in
    start_fits (lent p.plan) p.sounds c.requires c.put_plan_line.ensures.wrote c.list_verdicts.ensures

pub returns : goal.returns
returns c =
    let p = c.args.checked.now in
    plan_put (lent p.plan) p.sounds c.requires c.put_plan_line.ensures.wrote c.list_verdicts.ensures c.list_start.ensures
