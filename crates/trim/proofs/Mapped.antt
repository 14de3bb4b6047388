-- A loop that writes what a rule gives for each entry of a list, one behind another from place p on.
use mathlib.Core.Path.{◌≡◌, refl, sym, ap}
use mathlib.Core.List.{List, [], ◌∷◌, map}
use Prim.Native.Nat.{ℕ, ◌+◌, ◌-◌, ◌<◌, ◌≤◌}
use native.Mathlib.Numerals.{add-one}
use native.Mathlib.Omega.{arith}
use lib.ListN.{length, get_or, set, take, drop, length-map}
use lib.Seq.{slice, take-suc, take_all, length-take-le}
use Rattle.std.proofs.lemmas.List.{map-append, drop-take}
use Rattle.laws.specs.Wrote.{Wrote}
use Rattle.laws.specs.Writes.{put_all}
use Rattle.laws.proofs.Writes.{put_then}

-- a part of a list, as code takes it
pub part_slice : (a b : ℕ) (l : List ℕ) → a ≤ b → take (b - a) (drop a l) ≡ slice a b l
part_slice a b l h = let e : a + (b - a) ≡ b = omega arith in sym (rw e at (drop-take a (b - a) l))

-- xs are the entries and l₀ the table before; i entries are written
pub record Mapped (f : ℕ → ℕ) (xs : List ℕ) (p : ℕ) (l₀ : List ℕ) (i : ℕ) (l : List ℕ) : Type 0 where
  pub written : l ≡ put_all l₀ p (map f (take i xs))

module _ {f : ℕ → ℕ} {xs : List ℕ} {p : ℕ} {l₀ : List ℕ} where
  pub mapped_start : Mapped f xs p l₀ 0 l₀
  unfolding put_all
  mapped_start = record { written = refl }

  module _ {i : ℕ} {l : List ℕ} (c : Mapped f xs p l₀ i l) where
    pub mapped_next : i < length xs → {x : ℕ} → x ≡ f (get_or xs i 0) → {l' : List ℕ} → l' ≡ set l (p + i) x → Mapped f xs p l₀ (i + 1) l'
    unfolding put_all
    mapped_next h v w =
        let so_far = map f (take i xs) in
        let many : p + i ≡ p + length so_far = omega (arith, length-map (take i xs) f, length-take-le i xs (omega arith)) in
        record {
          written =
              rw (add-one i, take-suc xs i 0 h, map-append f (take i xs) (get_or xs i 0 ∷ []))
              (put_then l₀ p so_far (f (get_or xs i 0) ∷ []) c.written (rw (← v) w) many);
        }

    pub mapped_done : length xs ≤ i → Wrote l₀ p (map f xs) l (p + length xs)
    mapped_done h = record { stored = rw (take_all i xs h) at c.written; past = ap (λ (k : ℕ). p + k) (sym (length-map xs f)) }
