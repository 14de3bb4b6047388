-- The call's answer in each of its cases, with every table lent to it.
use mathlib.Core.Path.{◌≡◌, sym, ap, subst}
use mathlib.Core.Bool.{Bool, true, false, ◌&&◌}
use mathlib.Core.Logic.{⊎_elim}
use mathlib.Core.List.{List}
use Prim.Native.Nat.{ℕ, ◌≤◌}
use borrow.Author.Tests.{le-leb, leb-true}
use lib.Dec.{leb}
use lib.ListN.{length}
use Rattle.std.specs.Prelude.{Result, Ok, Err}
use Rattle.laws.proofs.Tests.{and_both, true_or_false}
use Rattle.model.specs.Practice.{tally}
use Rattle.model.specs.Refusal.{answer, need, ◌>>◌}
use Rattle.model.specs.Tables.{Tables}
use Rattle.model.specs.SoundTest.{sound}
use Rattle.model.specs.Calls.{AfterDecide, left, deciding, decide_call}
use Rattle.model.specs.Demand3.{DecidingDemand3}
use Rattle.model.proofs.Delivered.{decide_demand3}
use Rattle.tables.specs.declared.Refusal.{Refusal}
use Rattle.tables.specs.declared.Refusal.TheVariants.{Cramped, Unsound}
use Rattle.decide.specs.Answers.{after_decide}
use Rattle.decide.proofs.Finals.{PlanDecided}

-- ---- the lengths of the tables

abbrev pub Long : ℕ → ℕ → ℕ → ℕ → ℕ → Bool
Long n r c m s = leb n r && leb n c && leb n m && leb n s

module _ (n r c m s : ℕ) where
  pub short : (n ≤ r → n ≤ c → n ≤ m → n ≤ s → ⊥) → Long n r c m s ≡ false
  short h = ⊎_elim
      (λ e.
      let three = and_both (leb n r && leb n c && leb n m) (leb n s) e in
      let two = and_both (leb n r && leb n c) (leb n m) three.0 in
      let one = and_both (leb n r) (leb n c) two.0 in
      absurd (h (leb-true n r one.0) (leb-true n c one.1) (leb-true n m two.1) (leb-true n s three.1)))
      (λ e. e) (true_or_false (Long n r c m s))

  pub long : n ≤ r → n ≤ c → n ≤ m → n ≤ s → Long n r c m s ≡ true
  long h k l j = rw (le-leb n r h, le-leb n c k, le-leb n m l, le-leb n s j)

-- ---- the answer

-- what is shown of each way out, of the answer and of the tables that are left
module _ (T : Tables) (rs cs ms ss : List ℕ) where
  abbrev pub Answers : Result (List (List ℕ)) Refusal → List ℕ → List ℕ → List ℕ → List ℕ → Type 0
  Answers result r c m s = after_decide result r c m s ≡ decide_call T rs cs ms ss

  -- demand 3 follows from the equation
  pub demanded : (t : List (List ℕ)) {r c m s : List ℕ} → Answers (Ok t) r c m s → DecidingDemand3 T r c
  demanded t e =
      subst (λ (x : AfterDecide). DecidingDemand3 T x.ranks x.commands) (sym e)
      (decide_demand3 T rs cs ms ss t (sym (ap (λ (x : AfterDecide). x.answers) e)))

  pub unsound : sound T ≡ false → Answers (Err Unsound) rs cs ms ss
  unfolding deciding need ◌>>◌ left answer
  unsound h = rw h

  module _ (sounds : sound T ≡ true) where
    pub cramped : Long T.size.n (length rs) (length cs) (length ms) (length ss) ≡ false → Answers (Err Cramped) rs cs ms ss
    unfolding deciding need ◌>>◌ left answer
    cramped h = rw (sounds, h)

    pub decides : Long T.size.n (length rs) (length cs) (length ms) (length ss) ≡ true → {t : List (List ℕ)} {r c m s : List ℕ}
        → PlanDecided T rs cs ms ss t r c m s → Answers (Ok t) r c m s
    unfolding deciding need ◌>>◌ left answer tally
    decides h w = rw (sounds, h, w.tallied, w.ranked, w.chose, w.marked, w.clean)
