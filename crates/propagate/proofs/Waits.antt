-- States that stand in a queue, and commands among users: between two places.
use mathlib.Core.Path.{◌≡◌}
use mathlib.Core.Bool.{true, ◌&&◌}
use mathlib.Core.List.{List}
use Prim.Native.Nat.{ℕ, ◌≤◌, ◌<◌}
use borrow.Author.Tests.{le-leb, leb-true, eq-eqb, eqb-true}
use lib.Dec.{eqb, leb}
use lib.ListN.{get_or}
use Rattle.laws.proofs.Tests.{and_both, and_join}
use Rattle.laws.proofs.Sets.{exists_at, exists_of}
use Rattle.propagate.specs.Progress.{waiting}

module _ (q : List ℕ) (lo hi o : ℕ) where
  pub wait_at : waiting q lo hi o ≡ true → (i : ℕ) × (lo ≤ i) × (i < hi) × (get_or q i 0 ≡ o)
  unfolding waiting
  wait_at t =
      let (i, l, e) = exists_at (λ i. leb lo i && eqb (get_or q i 0) o) hi t in
      let b = and_both (leb lo i) (eqb (get_or q i 0) o) e in
      (i, leb-true lo i b.0, l, eqb-true (get_or q i 0) o b.1)

  pub wait_of : (i : ℕ) → lo ≤ i → i < hi → get_or q i 0 ≡ o → waiting q lo hi o ≡ true
  unfolding waiting
  wait_of i p l e =
      exists_of (λ i. leb lo i && eqb (get_or q i 0) o) hi i l
      (and_join (leb lo i) (eqb (get_or q i 0) o) (le-leb lo i p) (eq-eqb (get_or q i 0) o e))
