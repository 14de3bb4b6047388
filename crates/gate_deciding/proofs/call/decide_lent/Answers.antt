-- A plan that is not loaded is unsound; one that is loaded agrees with the plan lent, so that deciding it answers the same.
use mathlib.Core.Path.{◌≡◌}
use lib.ListN.{length}
use Rattle.std.proofs.Common.{rules, Err}
use Rattle.load.proofs.Lending.{call_refused, call_given}
use Rattle.gate_deciding.proofs.LentDeciding.{decide_call_lem, decide_refused, decide_moved}
use Rattle.gate_deciding.proofs.call.decide_lent.Goals as goal

pub returns-in_err-read : goal.returns-in_err-read
returns-in_err-read c =
    let a = c.args in
    let e : c.from_residual.result ≡ Err c.in_err-read.field-0.0 = search rules in
    let refused = call_refused _ _ _ _ _ c.load_plan.ensures.answered
    (decide_call_lem (length a.ranks.now) (length a.commands.now) (length a.marks.now) (length a.scratch.now) (length a.tally.now)) _ c.in_err-read.was in
    record { call = rw e (decide_refused a.ranks.now a.commands.now a.marks.now a.scratch.now a.tally.now _ _ refused) }

pub returns : goal.returns
returns c =
    let a = c.args in
    let same = call_given _ _ _ _ _ c.load_plan.ensures.answered
    (decide_call_lem (length a.ranks.now) (length a.commands.now) (length a.marks.now) (length a.scratch.now) (length a.tally.now)) _ c.in_ok-read.was
    _ c.load_plan.new.states _ _ _ _ c.load_plan.ensures.rows c.load_plan.ensures.firsts c.load_plan.ensures.outcomes in
    record { call = decide_moved a.ranks.now a.commands.now a.marks.now a.scratch.now a.tally.now _ _ same c.decide_loaded.ensures.call }
