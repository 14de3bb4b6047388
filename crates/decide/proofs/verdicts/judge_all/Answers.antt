-- A turn judges and counts one state more.
use Rattle.decide.proofs.Passes.{pass_start, pass_room, pass_next}
use Rattle.tables.proofs.SoundPlans.{plan_ready}
use native.Mathlib.Omega.{arith}
use Rattle.decide.proofs.verdicts.judge_all.Goals as goal

pub loop-s-init : goal.loop-s-init
loop-s-init c = pass_start

pub add-next-requires : goal.add-next-requires
add-next-requires c = pass_room c.loop-s.invariant (omega (arith, c.loop-s-test.true, (plan_ready c.args.checked.now).few))

pub loop-s-preserved : goal.loop-s-preserved
loop-s-preserved c = pass_next c.loop-s.invariant c.judge-place.ensures (omega arith) (omega arith) _ c.add-next.ensures
