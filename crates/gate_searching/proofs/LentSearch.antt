-- The search as a call on a lent plan.
use mathlib.Core.Path.{◌≡◌, ap}
use mathlib.Core.List.{List}
use Prim.Native.Nat.{ℕ}
use Rattle.model.specs.Search.{Result}
use Rattle.model.specs.Refusal.{Answer}
use Rattle.model.specs.Calls.{result_table, cleared}
use Rattle.model.specs.Boundary.{bytes_for, result_entries, gate_search, AfterGateSearch}
use Rattle.model.proofs.Gates.{gate_search_lent, gate_search_same, gate_search_unsound}
use Rattle.load.proofs.Lending.{PlanCall}
use Rattle.gate_searching.proofs.Delivering.{after_answer}

-- what the call returns and leaves, by what it answers
abbrev search_after : Answer (ℕ × Result) → List ℕ → List ℕ → List ℕ → AfterGateSearch
search_after q = after_answer q (λ x. bytes_for (result_table x.0 x.1)) (λ x. bytes_for (cleared x.0))
    (λ x. bytes_for (result_entries (x.1.lost, x.1.rounds)))

pub search_call_lem : (start commands scratch answer : ℕ) → PlanCall (λ lent. gate_search lent start commands scratch answer)
search_call_lem start commands scratch answer = record {
  first = λ lent. gate_search_lent lent start commands scratch answer;
  unsound = λ T e. gate_search_unsound T e start commands scratch answer;
  same = λ same. gate_search_same same start commands scratch answer;
}

-- what is returned and left by one answer is so by an equal one
pub search_moved : {q q' : Answer (ℕ × Result)} → q ≡ q' → (C X A : List ℕ) → search_after q C X A ≡ search_after q' C X A
search_moved e C X A = ap (λ q. search_after q C X A) e
