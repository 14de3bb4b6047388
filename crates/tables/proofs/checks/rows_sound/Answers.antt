-- The rows before row s pass the test, so the first that does not is the answer for all, whatever the other tables hold.
use mathlib.Core.Path.{sym, ◌∙◌}
use Rattle.laws.proofs.Loops.{every_none, every_next, every_stop, every_done}
use Rattle.tables.proofs.SpanFacts.{row_tested}
use Rattle.tables.proofs.checks.rows_sound.Goals as goal

pub loop-s-init : goal.loop-s-init
loop-s-init c = every_none _

pub returns-then-not-span_sound : goal.returns-then-not-span_sound
returns-then-not-span_sound c =
    every_stop _ c.loop-s-test.true
    (sym (row_tested _ _ _ _ (c.span_at-span.ensures c.args.plan.now.firsts.now c.args.plan.now.outcomes.now) c.span_sound.ensures) ∙ c.if-not-span_sound.true)

pub loop-s-preserved : goal.loop-s-preserved
loop-s-preserved c =
    every_next _ _ c.loop-s.invariant
    (sym (row_tested _ _ _ _ (c.span_at-span.ensures c.args.plan.now.firsts.now c.args.plan.now.outcomes.now) c.span_sound.ensures) ∙ c.if-not-span_sound.false)

pub returns : goal.returns
returns c = every_done _ c.loop-s.invariant c.loop-s-test.false
