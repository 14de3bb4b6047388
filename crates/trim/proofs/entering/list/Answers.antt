-- The states below s that are reached stand in the first places, when the loop comes to s.
use mathlib.Core.Path.{◌∙◌}
use native.Mathlib.Omega.{arith}
use Rattle.laws.proofs.Gathers.{gathers_start, gathers_room, gathers_next}
use Rattle.walks.proofs.FlagValues.{value_walked, value_unwalked}
use Rattle.trim.proofs.entering.list.Goals.{then-reached, else-reached}
use Rattle.trim.proofs.entering.list.Goals as goal

pub loop-s-init : goal.loop-s-init
loop-s-init c = gathers_start

pub put-requires : goal.put-requires
put-requires c =
    (omega (arith, c.requires, c.loop-s.invariant.same, gathers_room c.loop-s.invariant), omega (arith, c.requires, gathers_room c.loop-s.invariant))

pub overflow_add-i : goal.overflow_add-i
overflow_add-i c = omega (arith, c.requires, gathers_room c.loop-s.invariant)

pub loop-s-preserved : goal.loop-s-preserved
loop-s-preserved c =
    elim c.if-reached.branch [
      | then-reached w ↦
          let e = value_walked c.args.flags.now c.loop-s.s (omega (arith, c.at-reached.ensures, w.if-reached.true)) in
          gathers_next c.loop-s.invariant c.loop-s-test.true (rw e w.i-is) (rw e (w.kept-is ∙ w.put.ensures))
      | else-reached w ↦
          let e = value_unwalked c.args.flags.now c.loop-s.s (omega (arith, c.at-reached.ensures, w.if-reached.false)) in
          gathers_next c.loop-s.invariant c.loop-s-test.true (rw e w.i-is) (rw e w.kept-is)
    ]
