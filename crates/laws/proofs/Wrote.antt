-- Bytes stored one after another.
use mathlib.Core.Path.{◌≡◌, refl, sym, ap, ◌∙◌}
use mathlib.Core.List.{List, [], ◌∷◌, ◌++◌}
use Prim.Native.Nat.{ℕ, ◌+◌}
use native.Mathlib.Omega.{arith}
use lib.ListN.{length, set, length-append}
use Rattle.laws.specs.Writes.{put_all}
use Rattle.laws.specs.Wrote.{Wrote}
use Rattle.laws.proofs.Writes.{length_put, put_append}

pub wrote_one : (l : List ℕ) (i x : ℕ) → Wrote l i (x ∷ []) (set l i x) (i + 1)
unfolding put_all
wrote_one l i x = record { stored = refl; past = refl }

-- what is stored at the place past the bytes xs follows them
pub wrote_then : {l m r xs ys : List ℕ} {i j k : ℕ} → Wrote l i xs m j → Wrote m j ys r k → Wrote l i (xs ++ ys) r k
wrote_then {l} {m} {r} {xs} {ys} {i} {j} {k} a b = record {
  stored = b.stored ∙ rw (a.stored, a.past) (sym (put_append l i xs ys));
  past = omega (arith, a.past, b.past, length-append xs ys);
}

pub wrote_length : {l m xs : List ℕ} {i j : ℕ} → Wrote l i xs m j → length m ≡ length l
wrote_length {l} {m} {xs} {i} w = ap length w.stored ∙ length_put l i xs
