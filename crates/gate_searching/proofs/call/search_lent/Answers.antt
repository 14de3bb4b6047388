-- A plan that is not loaded is unsound; one that is loaded agrees with the plan lent, so that the search on it answers the same.
use mathlib.Core.Path.{◌≡◌, ◌∙◌}
use lib.ListN.{length}
use Rattle.std.proofs.Common.{rules}
use Rattle.std.specs.Prelude.{Err}
use Rattle.load.proofs.Lending.{call_refused, call_given}
use Rattle.model.specs.Boundary.{code}
use Rattle.gate_searching.proofs.Delivering.{refused_after}
use Rattle.gate_searching.proofs.LentSearch.{search_call_lem, search_moved}
use Rattle.gate_searching.proofs.call.search_lent.Goals as goal

pub returns-in_err-read : goal.returns-in_err-read
unfolding code
returns-in_err-read c =
    let a = c.args in
    let is : c.from_residual.result ≡ Err c.in_err-read.field-0.0 = search rules in
    let e = call_refused _ _ _ _ _ c.load_plan.ensures.answered
    (search_call_lem a.start (length a.commands.now) (length a.scratch.now) (length a.answer.now)) _ c.in_err-read.was in
    record { call = rw is (refused_after _ _ _ _ _ _ _ e) }

pub returns : goal.returns
returns c = record {
  call = let a = c.args in
      let e = call_given _ _ _ _ _ c.load_plan.ensures.answered
      (search_call_lem a.start (length a.commands.now) (length a.scratch.now) (length a.answer.now)) _ c.in_ok-read.was _
      c.load_plan.new.states _ _ _ _ c.load_plan.ensures.rows c.load_plan.ensures.firsts c.load_plan.ensures.outcomes in
      c.search_loaded.ensures.call ∙ search_moved e a.commands.now a.scratch.now a.answer.now;
}
