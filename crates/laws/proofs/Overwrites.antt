-- Tables whose first places are written: by a rule, known by their entries; and with a list, which they then hold.
use mathlib.Core.Path.{◌≡◌, sym, ap, ◌∙◌}
use mathlib.Core.List.{List}
use Prim.Native.Nat.{ℕ, ◌<◌, ◌≤◌}
use native.Mathlib.Decide.{dec_lt}
use native.Mathlib.Omega.{arith}
use lib.ListN.{length, get_or, take}
use lib.Seq.{ext_get_or}
use Rattle.laws.specs.Lists.{tabulate, overwrite}
use Rattle.laws.proofs.Lists.{
  length_tabulate,
  tabulate_at,
  length_overwrite,
  take_overwrite,
  get_or_overwrite_below,
  get_or_overwrite_above,
}

pub overwrite_at : (f : ℕ → ℕ) (n : ℕ) (table : List ℕ) (i : ℕ) → i < n → get_or (overwrite (tabulate f 0 n) table) i 0 ≡ f i
overwrite_at f n table i h = get_or_overwrite_below (tabulate f 0 n) table i 0 (rw (length_tabulate f 0 n) h) ∙ tabulate_at f n i 0 h

module _ (f : ℕ → ℕ) (n : ℕ) (table : List ℕ) (long : n ≤ length table) where
  pub overwrite_length : length (overwrite (tabulate f 0 n) table) ≡ length table
  overwrite_length = length_overwrite (tabulate f 0 n) table (rw (length_tabulate f 0 n) long)

  pub overwrite_low : (i : ℕ) → i < n → get_or (overwrite (tabulate f 0 n) table) i 0 ≡ f i
  overwrite_low = overwrite_at f n table

  pub overwrite_high : (i : ℕ) → n ≤ i → get_or (overwrite (tabulate f 0 n) table) i 0 ≡ get_or table i 0
  overwrite_high i h = get_or_overwrite_above (tabulate f 0 n) table i 0 (rw (length_tabulate f 0 n) h)

  pub overwrite_is : (l : List ℕ) → length l ≡ length table → ((i : ℕ) → i < n → get_or l i 0 ≡ f i)
      → ((i : ℕ) → n ≤ i → get_or l i 0 ≡ get_or table i 0) → l ≡ overwrite (tabulate f 0 n) table
  overwrite_is l e low high =
      ext_get_or 0 l (overwrite (tabulate f 0 n) table) (e ∙ sym overwrite_length) (λ i k. go i (dec_lt i n))
    where
      go : (i : ℕ) → Dec (i < n) → get_or l i 0 ≡ get_or (overwrite (tabulate f 0 n) table) i 0
      go i (yes p) = low i p ∙ sym (overwrite_low i p)
      go i (no p) = let h : n ≤ i = omega arith in high i h ∙ sym (overwrite_high i h)

module _ {A : Type 0} (xs table : List A) {after : List A} {n : ℕ} (e : after ≡ overwrite xs table) (k : length xs ≡ n) where
  pub overwrite_holds : take n after ≡ xs
  overwrite_holds = rw (e, ← k) (take_overwrite xs table)

  pub overwrite_long : n ≤ length table → n ≤ length after
  overwrite_long h = omega (arith, ap length e, length_overwrite xs table (omega arith))
