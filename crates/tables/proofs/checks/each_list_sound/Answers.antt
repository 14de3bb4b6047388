-- The lists before list i pass the test, so the first that does not is the answer for all.
use mathlib.Core.Path.{sym, ◌∙◌}
use Rattle.laws.proofs.Loops.{every_none, every_next, every_stop, every_done}
use Rattle.tables.proofs.checks.each_list_sound.Goals as goal

pub loop-i-init : goal.loop-i-init
loop-i-init c = every_none _

pub returns-then-not-list_sound : goal.returns-then-not-list_sound
returns-then-not-list_sound c = every_stop _ c.loop-i-test.true (sym c.list_sound.ensures ∙ c.if-not-list_sound.true)

pub loop-i-preserved : goal.loop-i-preserved
loop-i-preserved c =
    every_next _ _ c.loop-i.invariant (sym c.list_sound.ensures ∙ c.if-not-list_sound.false)

pub returns : goal.returns
returns c = every_done _ c.loop-i.invariant c.loop-i-test.false
