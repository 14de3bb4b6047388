-- Each state stands in the queue once, so there is room in it for every state that is not reached.
use mathlib.Core.Path.{◌≡◌, refl}
use mathlib.Core.Bool.{Bool, true, false}
use mathlib.Core.List.{List}
use Prim.Native.Nat.{ℕ, zero, suc, ◌<◌, ◌≤◌}
use native.Mathlib.Omega.{arith}
use lib.Dec.{eqb}
use lib.ListN.{get_or}
use borrow.Author.Tests.{eqb-true, eq-eqb}
use Rattle.laws.specs.Sets.{exists, how_many}
use Rattle.laws.proofs.Tests.{clash, refute, or_left, or_right}
use Rattle.laws.proofs.Sets.{exists_at, many_bound, many_lt}
use Rattle.walks.specs.Flags.{walked_in}
use Rattle.walks.specs.Queued.{Queued}

-- x is at one of the first q places
abbrev has : List ℕ → ℕ → ℕ → Bool
has u q x = exists (λ i. eqb (get_or u i 0) x) q

distinct : (u : List ℕ) (n q : ℕ) → ((i : ℕ) → i < q → get_or u i 0 < n) → ((i j : ℕ) → i < q → j < q → get_or u i 0 ≡ get_or u j 0 → i ≡ j)
    → q ≤ how_many (has u q) n
unfolding exists
distinct u n zero states once = omega arith
distinct u n (suc q) states once =
    let below = distinct u n q (λ i k. states i (omega arith)) (λ i j k m. once i j (omega arith) (omega arith)) in
    let more =
    many_lt (has u q) (has u (suc q)) n (λ x k t. or_left (has u q x) (eqb (get_or u q 0) x) t) (get_or u q 0) (states q (omega arith))
    (refute (has u q (get_or u q 0)) (λ t. let (i, k, e) = exists_at (λ j. eqb (get_or u j 0) (get_or u q 0)) q t in
    omega (arith, once i q (omega arith) (omega arith) (eqb-true (get_or u i 0) (get_or u q 0) e))))
    (or_right (has u q (get_or u q 0)) (eqb (get_or u q 0) (get_or u q 0)) (eq-eqb (get_or u q 0) (get_or u q 0) refl)) in
    omega arith

module _ {n q : ℕ} {s u : List ℕ} (L : Queued n q s u) where
  places : q ≤ how_many (has u q) n
  places = distinct u n q L.states L.once

  pub queued_few : q ≤ n
  queued_few = omega (arith, places, many_bound (has u q) n)

  pub queued_room : (x : ℕ) → x < n → walked_in s x ≡ false → q < n
  queued_room x l out =
      let less = many_lt (has u q) (λ y. true) n (λ i k t. refl) x l absent refl in
      omega (arith, places, many_bound (λ y. true) n)
    where
      absent : has u q x ≡ false
      absent =
          refute (has u q x)
          (λ t. let (i, k, e) = exists_at (λ j. eqb (get_or u j 0) x) q t in clash (rw (eqb-true (get_or u i 0) x e) at (L.placed i k)) out)
