-- The loop that finds how many places of the queue stay: from place q' on all were reached too late.
use mathlib.Core.Path.{◌≡◌}
use mathlib.Core.List.{List}
use Prim.Native.Nat.{ℕ, ◌+◌, ◌<◌, ◌≤◌}
use native.Mathlib.Decide.{ℕ_discrete}
use native.Mathlib.Omega.{arith}
use lib.ListN.{get_or}
use Rattle.search.specs.Settled.{Cut}

pub record Cutting (low q' q : ℕ) (s u : List ℕ) : Type 0 where
  pub some : 0 < q'
  pub part : q' ≤ q
  pub above : (i : ℕ) → q' ≤ i → i < q → low + 2 ≤ get_or s (get_or u i 0) 0

module _ {low q' q : ℕ} {s u : List ℕ} (w : Cutting low q' q s u) where
  -- all but the start go
  pub cut_first : q' ≤ 1 → Cut low 1 q s u
  cut_first h = record {
    some = omega arith;
    part = omega (arith, w.some, w.part);
    last = λ i l e. absurd (omega arith);
    above = λ i l k. w.above i (omega arith) k;
  }

  -- the place before was read
  module _ (p : ℕ) (e : p + 1 ≡ q') (x : ℕ) (is : x ≡ get_or u p 0) (f : ℕ) (read : f ≡ get_or s x 0) where
    pub cut_here : f < low + 2 → Cut low (p + 1) q s u
    cut_here h = record {
      some = omega arith;
      part = omega (arith, w.part);
      last = λ i l z. let same : i ≡ p = omega arith in rw (same, ← is, ← read) h;
      above = λ i l k. w.above i (omega arith) k;
    }

    pub cutting_next : 1 < q' → low + 2 ≤ f → Cutting low p q s u
    cutting_next m h = record {
      some = omega arith;
      part = omega (arith, w.part);
      above = λ i l k. go i l k (ℕ_discrete i p);
    }
      where
        go : (i : ℕ) → p ≤ i → i < q → Dec (i ≡ p) → low + 2 ≤ get_or s (get_or u i 0) 0
        go i l k (yes z) = rw (z, ← is, ← read) h
        go i l k (no z) = w.above i (omega (arith, z)) k
