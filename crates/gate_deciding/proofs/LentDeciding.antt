-- Deciding as a call on a lent plan.
use mathlib.Core.Path.{◌≡◌, ap, ◌∙◌}
use mathlib.Core.List.{List}
use Prim.Native.Nat.{ℕ}
use lib.ListN.{length}
use Rattle.std.specs.Prelude.{Err}
use Rattle.model.specs.Plan.{Plan}
use Rattle.model.specs.Refusal.{Answer, refused}
use Rattle.model.specs.Tables.{Tables}
use Rattle.model.specs.Calls.{left, rank_table, command_table, mark_table, cleared}
use Rattle.model.specs.Boundary.{bytes_for, tally_entries, code, gate_decide, AfterGateDecide, gate_decide_call}
use Rattle.model.proofs.Gates.{gate_decide_lent, gate_decide_same, gate_decide_unsound}
use Rattle.tables.specs.declared.Refusal.{Refusal}
use Rattle.tables.specs.Meaning.{refusal_of}
use Rattle.load.proofs.Lending.{PlanCall}
use Rattle.gate_deciding.specs.Delivery.{after_gate_decide}
use Rattle.store.specs.Codes.{code_of}

pub decide_call_lem : (ranks commands marks scratch tally : ℕ) → PlanCall (λ lent. gate_decide lent ranks commands marks scratch tally)
decide_call_lem ranks commands marks scratch tally = record {
  first = λ lent. gate_decide_lent lent ranks commands marks scratch tally;
  unsound = λ T e. gate_decide_unsound T e ranks commands marks scratch tally;
  same = λ same. gate_decide_same same ranks commands marks scratch tally;
}

module _ (R C M X Y : List ℕ) where
  -- what is returned and left where the call answers q
  abbrev after : Answer Plan → AfterGateDecide
  after q =
      after_gate_decide (code q) (left (λ P. bytes_for (rank_table P)) q R) (left (λ P. bytes_for (command_table P)) q C)
      (left (λ P. bytes_for (mark_table P)) q M) (left (λ P. bytes_for (cleared P.states)) q X) (left (λ P. bytes_for (tally_entries P)) q Y)

  abbrev call : Answer Tables → Answer Plan
  call lent = gate_decide lent (length R) (length C) (length M) (length X) (length Y)

  pub decide_refused : (lent : Answer Tables) (r : Refusal) → call lent ≡ refused (refusal_of r)
      → after_gate_decide (code_of (Err r)) R C M X Y ≡ gate_decide_call lent R C M X Y
  unfolding code left
  decide_refused lent r e = rw e

  pub decide_moved : (lent lent' : Answer Tables) → call lent ≡ call lent' → {y : AfterGateDecide} → y ≡ gate_decide_call lent R C M X Y → y
      ≡ gate_decide_call lent' R C M X Y
  decide_moved lent lent' e h = h ∙ ap after e
