-- Lists that follow one another lie in one stretch of their table: what they are together, and where each begins.
use mathlib.Core.Path.{◌≡◌, refl, sym, ap, ap₂, ◌∙◌}
use mathlib.Core.List.{List, ◌∷◌, ◌++◌}
use Prim.Native.Nat.{ℕ, zero, suc, ◌+◌, ◌-◌, ◌≤◌}
use native.Mathlib.Nat.{add-zero}
use native.Mathlib.Omega.{arith}
use lib.ListN.{get_or}
use lib.Seq.{slice, slice_empty, length-slice}
use Rattle.laws.specs.Lists.{tabulate, joined}
use Rattle.laws.proofs.Lists.{slice_join}
use Rattle.laws.proofs.Starts.{start_in_lem}
use Rattle.model.specs.Tables.{Lists, firsts_from}
use Rattle.model.specs.Places.{start_in, list_at}
use Rattle.tables.specs.Ready.{Ready}
use Rattle.tables.proofs.Readiness.{ready_order, ready_end}

module _ {n : ℕ} (L : Lists) (r : Ready n L) where
  -- k lists from list a on, together
  pub stretch : (a k : ℕ) → a + k ≤ L.count → joined (tabulate (list_at L) a k) ≡ slice (start_in L a) (start_in L (a + k)) L.entries
  unfolding tabulate joined list_at
  stretch a zero h = sym
      (ap (λ (e : ℕ). slice (start_in L a) (start_in L e) L.entries) (add-zero a) ∙ slice_empty (start_in L a) L.entries)
  stretch a (suc k) h =
      let e : suc a + k ≡ a + suc k = omega arith in
      ap (λ (l : List ℕ). slice (start_in L a) (start_in L (suc a)) L.entries ++ l) (stretch (suc a) k (omega arith))
      ∙ slice_join (start_in L a) (start_in L (suc a)) (start_in L (suc a + k)) L.entries
      (ready_order r a (suc a) (omega arith) (omega arith))
      (ready_order r (suc a) (suc a + k) (omega arith) (omega arith))
      (omega (arith, ready_end r (suc a + k) (omega arith), r.states.long))
      ∙ ap (λ (j : ℕ). slice (start_in L a) (start_in L j) L.entries) e

  -- where they begin in another table, in which the place that was b is t
  pub stretch_firsts : (b t a k now : ℕ) → a + k ≤ L.count → b ≤ start_in L a → now ≡ start_in L a - b + t
      → firsts_from now (tabulate (list_at L) a k) ≡ tabulate (λ i. get_or L.firsts i 0 - b + t) a k
  unfolding tabulate firsts_from list_at
  stretch_firsts b t a zero now h low e = refl
  stretch_firsts b t a (suc k) now h low e =
      let rises = ready_order r a (suc a) (omega arith) (omega arith) in
      let within = ready_end r (suc a) (omega arith) in
      ap₂ (λ (x : ℕ) (xs : List ℕ). x ∷ xs)
      (e ∙ ap (λ (x : ℕ). x - b + t) (start_in_lem L.firsts L.count L.end a (omega arith)))
      (stretch_firsts b t (suc a) k _ (omega arith) (omega arith)
      (omega (arith, e, length-slice (start_in L a) (start_in L (suc a)) L.entries (omega (arith, r.states.long)))))
