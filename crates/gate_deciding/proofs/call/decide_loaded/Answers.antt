-- Deciding in tables of the limit's length is cramped nowhere, so that only the room in the slices is left to ask for.
use mathlib.Core.Path.{◌≡◌}
use Rattle.std.proofs.Common.{rules, Err}
use Rattle.tables.specs.Meaning.{lent}
use Rattle.gate_deciding.proofs.Decided.{decided_long, decision_delivered}
use Rattle.gate_deciding.proofs.Delivering.{not_decided}
use Rattle.gate_deciding.proofs.call.decide_loaded.Goals as goal

pub returns-in_err-counts : goal.returns-in_err-counts
returns-in_err-counts c =
    let e : c.from_residual.result ≡ Err c.in_err-counts.field-0.0 = search rules in
    record { call = rw e (decision_delivered (lent c.args.plan.now) _ _ _ _ _ _ _ c.in_err-counts.ensures.call (not_decided _ _ _ _ _ _ _ _ _ _ _)) }

pub deliver-requires : goal.deliver-requires
deliver-requires c = decided_long (lent c.args.plan.now) _ c.in_ok-counts.ensures.call

pub returns : goal.returns
returns c = record {
  call = decision_delivered (lent c.args.plan.now) _ _ _ _ _ _ _ c.in_ok-counts.ensures.call c.deliver.ensures.call;
}
