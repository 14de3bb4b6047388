-- What the exports promise, from what they call: the equation, and demand 3 of the bytes where 0 is returned.
use mathlib.Core.Path.{◌≡◌, sym, ap, ◌∙◌, subst}
use mathlib.Core.List.{List}
use Prim.Native.Nat.{ℕ}
use Rattle.model.specs.Refusal.{Answer, given}
use Rattle.model.specs.Tables.{Tables}
use Rattle.model.specs.Demand3.{DecidingDemand3, SearchDemand3}
use Rattle.model.specs.Boundary.{AfterGateDecide, AfterGateSearch, entries_in, verdict_in, rounds_in, gate_decide_call, gate_search_call}
use Rattle.model.proofs.GateDemands.{gate_decide_demand3, gate_search_demand3}

module _ (lent : Answer Tables) where
  pub decides : (ranks commands marks scratch tally : List ℕ) {D : AfterGateDecide} → D
      ≡ gate_decide_call lent ranks commands marks scratch tally
      → (gate_decide_call lent ranks commands marks scratch tally ≡ D)
      × ((T : Tables) → lent ≡ given T → D.returns ≡ 0 → DecidingDemand3 T (entries_in D.ranks) (entries_in D.commands))
  decides ranks commands marks scratch tally e = (
    sym e,
    λ T is zero.
        subst (λ (X : AfterGateDecide). DecidingDemand3 T (entries_in X.ranks) (entries_in X.commands)) (sym e)
        (gate_decide_demand3 lent T is ranks commands marks scratch tally (ap (λ (X : AfterGateDecide). X.returns) (sym e) ∙ zero)),
  )

  pub searches : (start : ℕ) (commands scratch answer : List ℕ) {S : AfterGateSearch} → S
      ≡ gate_search_call lent start commands scratch answer
      → (gate_search_call lent start commands scratch answer ≡ S)
      × ((T : Tables) → lent ≡ given T → S.returns ≡ 0
      → SearchDemand3 T start (verdict_in S.answer) (rounds_in S.answer) (entries_in S.commands))
  searches start commands scratch answer e = (
    sym e,
    λ T is zero.
        subst (λ (X : AfterGateSearch). SearchDemand3 T start (verdict_in X.answer) (rounds_in X.answer) (entries_in X.commands))
        (sym e)
        (gate_search_demand3 lent T is start commands scratch answer (ap (λ (X : AfterGateSearch). X.returns) (sym e) ∙ zero)),
  )
