-- What is known of a plan that has passed the test.
use Prim.Native.Nat.{◌≤◌}
use lib.ListN.{length}
use Rattle.tables.specs.declared.sound_plan.SoundPlan.{SoundPlan}
use Rattle.tables.specs.Spans.{commands_of}
use Rattle.tables.specs.Ready.{Ready}
use Rattle.tables.proofs.Readiness.{sound_ready, sound_rows}

pub plan_ready : (p : SoundPlan) → Ready p.plan.size.n (commands_of p.plan.size p.plan.firsts.now p.plan.outcomes.now)
plan_ready p = sound_ready p.plan.size p.plan.rows.now p.plan.firsts.now p.plan.outcomes.now p.sounds

pub plan_rows : (p : SoundPlan) → p.plan.size.n ≤ length p.plan.rows.now
plan_rows p = sound_rows p.plan.size p.plan.rows.now p.plan.firsts.now p.plan.outcomes.now p.sounds
