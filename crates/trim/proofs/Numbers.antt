-- A loop that goes over the states that are kept: the map gets the old number at each new one, and scratch the new at each old one.
use mathlib.Core.Path.{◌≡◌, refl, sym, ap, ◌∙◌}
use mathlib.Core.List.{List}
use Prim.Native.Nat.{ℕ, ◌+◌, ◌<◌, ◌≤◌}
use native.Mathlib.Omega.{arith}
use lib.ListN.{length, get_or, set, length-set}
use Rattle.laws.specs.Lists.{overwrite}
use Rattle.laws.specs.Placed.{RisingPlaces, Placed}
use Rattle.laws.proofs.Lists.{tabulate_is}
use Rattle.laws.proofs.Placed.{placed_next}
use Rattle.laws.proofs.Writes.{ruled, ruled_next, ruled_last, ruled_first}

-- olds₀ and scratch₀ are the tables before
pub record Numbering (kept olds₀ scratch₀ olds scratch : List ℕ) (i : ℕ) : Type 0 where
  pub same : length olds ≡ length olds₀
  pub left : ruled (λ j. get_or kept j 0) (length kept) i olds ≡ ruled (λ j. get_or kept j 0) (length kept) 0 olds₀
  pub numbered : Placed i kept (λ j. j) scratch₀ scratch

pub numbering_start : {kept olds₀ scratch₀ : List ℕ} → Numbering kept olds₀ scratch₀ olds₀ scratch₀ 0
numbering_start = record {
  same = refl;
  left = refl;
  numbered = record { same = refl; named = λ j h. omega (arith, h); others = λ x new. refl };
}

module _ {kept olds₀ scratch₀ olds scratch : List ℕ} {i : ℕ} (c : Numbering kept olds₀ scratch₀ olds scratch i) where
  pub numbering_next : RisingPlaces (length kept) kept (length scratch₀) → i < length kept → {x s v : ℕ} {olds' scratch' : List ℕ}
      → x ≡ get_or kept i 0 → s ≡ get_or kept i 0 → v ≡ i → olds' ≡ set olds i x → scratch' ≡ set scratch s v
      → Numbering kept olds₀ scratch₀ olds' scratch' (i + 1)
  numbering_next r h p q w o z = record {
    same = rw o (length-set olds i _ ∙ c.same);
    left = rw o (ruled_next (λ j. get_or kept j 0) (length kept) i olds h p ∙ c.left);
    numbered = placed_next c.numbered r h q w z;
  }

  pub numbering_done : length kept ≤ length olds₀ → length kept ≤ i → olds ≡ overwrite kept olds₀
  numbering_done l h =
      sym (ruled_last (λ j. get_or kept j 0) (length kept) i olds h) ∙ c.left ∙ ruled_first (λ j. get_or kept j 0) (length kept) olds₀ l
      ∙ ap (λ (xs : List ℕ). overwrite xs olds₀) (tabulate_is (λ j. get_or kept j 0) kept 0 (λ j k. refl))
