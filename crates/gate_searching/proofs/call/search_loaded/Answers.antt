-- The search in tables of the limit's length is cramped nowhere, so that only the room in the slices is left to ask for.
use mathlib.Core.Path.{◌≡◌, refl, ◌∙◌}
use Rattle.std.proofs.Common.{rules}
use Rattle.std.specs.Prelude.{Ok, Err}
use Rattle.tables.specs.Meaning.{lent}
use Rattle.model.specs.Boundary.{code}
use Rattle.gate_searching.proofs.Delivering.{not_found, refused_after}
use Rattle.gate_searching.proofs.Searched.{deliverable, search_delivered}
use Rattle.gate_searching.proofs.call.search_loaded.Goals as goal

pub returns-in_err-found : goal.returns-in_err-found
unfolding code
returns-in_err-found c =
    let a = c.args in
    let is : c.from_residual.result ≡ Err c.in_err-found.field-0.0 = search rules in
    record {
      call = rw is
          (refused_after _ _ _ _ _ _ _ (not_found _ _ _ _ _)
          ∙ search_delivered (lent a.plan.now) _ _ (Err c.in_err-found.field-0.0) _ _ c.in_err-found.ensures.call
          a.commands.now a.scratch.now a.answer.now);
    }

pub deliver-requires : goal.deliver-requires
deliver-requires c = record {
  fits = deliverable (lent c.args.plan.now) _ _ (Ok c.in_ok-found.found) _ _ c.in_ok-found.ensures.call _ refl;
}

pub returns : goal.returns
unfolding code
returns c = record {
  call = let a = c.args in
      c.deliver.ensures.call
      ∙ search_delivered (lent a.plan.now) _ _ (Ok c.in_ok-found.found) _ _ c.in_ok-found.ensures.call
      a.commands.now a.scratch.now a.answer.now;
}
