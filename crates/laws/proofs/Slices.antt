-- The members of a slice are the entries from its start on, below its end.
use mathlib.Core.Path.{◌≡◌, refl, sym}
use mathlib.Core.Logic.{⊎_elim}
use mathlib.Core.List.Memᴰ
use mathlib.Core.List.{List, Memᴰ}
use Prim.Native.Nat.{ℕ, zero, suc, ◌+◌, ◌-◌, ◌<◌, ◌≤◌}
use native.Mathlib.Omega.{arith}
use lib.ListN.{length, get_or}
use lib.Seq.{slice, slice_empty, slice-cons}

module _ (l : List ℕ) (e : ℕ) (long : e ≤ length l) where
  -- by how many entries are left
  part_at : (d a x : ℕ) → a + d ≡ e → Memᴰ x (slice a e l) → (i : ℕ) × (a ≤ i) × (i < e) × (get_or l i 0 ≡ x)
  part_at zero a x q m = let z : a ≡ e = omega arith in absurd (Memᴰ.not-nil (rw (z, slice_empty e l) at m))
  part_at (suc d) a x q m =
      ⊎_elim
      (λ h. (a, omega arith, omega arith, sym h))
      (λ h. let (i, p, r, g) = part_at d (suc a) x (omega arith) h in (i, omega arith, r, g))
      (Memᴰ.cases_cons (rw (slice-cons a e l 0 (omega arith) long) at m))

  pub slice_at : (a x : ℕ) → a ≤ e → Memᴰ x (slice a e l) → (i : ℕ) × (a ≤ i) × (i < e) × (get_or l i 0 ≡ x)
  slice_at a x p m = part_at (e - a) a x (omega arith) m

  -- by how many entries come before it
  at_part : (d a i : ℕ) → a + d ≡ i → i < e → Memᴰ (get_or l i 0) (slice a e l)
  at_part zero a i q h = let z : a ≡ i = omega arith in rw (z, slice-cons i e l 0 h long) (Memᴰ.head refl)
  at_part (suc d) a i q h =
      rw (slice-cons a e l 0 (omega arith) long) (Memᴰ.tail (at_part d (suc a) i (omega arith) h))

  pub slice_mem : (a i : ℕ) → a ≤ i → i < e → Memᴰ (get_or l i 0) (slice a e l)
  slice_mem a i p h = at_part (i - a) a i (omega arith) h
