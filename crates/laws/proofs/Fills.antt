-- Tables whose first places are written, one after another or all anew.
use mathlib.Core.Path.{◌≡◌, refl, sym, ap, ◌∙◌}
use mathlib.Core.List.{List, ◌∷◌}
use Prim.Native.Nat.{ℕ, zero, suc, ◌+◌, ◌<◌, ◌≤◌}
use native.Mathlib.Decide.{dec_lt}
use native.Mathlib.Numerals.{add-one}
use native.Mathlib.Omega.{arith}
use lib.ListN.{length, get_or, set, replicate, length-set}
use lib.Seq.{get_or-set_same, get_or-set_other, ext_get_or}
use Rattle.laws.specs.Filled.{Filled}
use Rattle.laws.specs.Lists.{tabulate, overwrite}
use Rattle.laws.proofs.Overwrites.{overwrite_length, overwrite_low, overwrite_high}
use Rattle.laws.proofs.Sets.{below_suc}
use Rattle.laws.proofs.Lists.{length_tabulate, tabulate_at, length_overwrite, get_or_overwrite_below, get_or_overwrite_above}

pub filled_none : {f : ℕ → ℕ} {l : List ℕ} → Filled 0 f l l
filled_none = record { same = refl; low = λ x k. absurd (omega arith); high = λ x k. refl }

-- one place more
pub filled_next : {i : ℕ} {f : ℕ → ℕ} {l₀ l : List ℕ} → Filled i f l₀ l → i < length l₀ → (v : ℕ) → v ≡ f i → (l' : List ℕ) → l' ≡ set l i v
    → Filled (i + 1) f l₀ l'
filled_next {i} {f} {l₀} {l} w h v p l' q = rw (q, p, add-one i) (record {
  same = length-set l i (f i) ∙ w.same;
  low = below_suc (λ x. get_or (set l i (f i)) x 0 ≡ f x) i (λ x k. get_or-set_other l i x (f i) 0 (λ e. omega arith) ∙ w.low x k)
      (get_or-set_same l i (f i) 0 (omega (arith, w.same)));
  high = λ x k. get_or-set_other l i x (f i) 0 (λ e. omega arith) ∙ w.high x (omega arith);
})

-- another rule that says the same
pub filled_as : {n : ℕ} {f g : ℕ → ℕ} {l₀ l : List ℕ} → ((x : ℕ) → x < n → f x ≡ g x) → Filled n f l₀ l → Filled n g l₀ l
filled_as h w = record { same = w.same; low = λ x k. w.low x k ∙ h x k; high = w.high }

-- the places are written over a list that differs from l₀ in them only
pub filled_from : {n : ℕ} {f : ℕ → ℕ} {l₀ l l' : List ℕ} → length l ≡ length l₀ → ((x : ℕ) → n ≤ x → get_or l x 0 ≡ get_or l₀ x 0)
    → Filled n f l l'
    → Filled n f l₀ l'
filled_from e h w = record { same = w.same ∙ e; low = w.low; high = λ x k. w.high x k ∙ h x k }

pub filled_over : {n : ℕ} {f g : ℕ → ℕ} {l₀ l l' : List ℕ} → Filled n f l₀ l → Filled n g l l' → Filled n g l₀ l'
filled_over v w = filled_from v.same v.high w

-- as an equation
pub filled_is : {n : ℕ} {f : ℕ → ℕ} {l₀ l : List ℕ} → n ≤ length l₀ → Filled n f l₀ l → l ≡ overwrite (tabulate f 0 n) l₀
filled_is {n} {f} {l₀} {l} h w =
    let e = length_tabulate f 0 n in
    ext_get_or 0 l (overwrite (tabulate f 0 n) l₀) (w.same ∙ sym (length_overwrite (tabulate f 0 n) l₀ (omega arith)))
    (λ i k. go i (dec_lt i n))
  where
    go : (i : ℕ) → Dec (i < n) → get_or l i 0 ≡ get_or (overwrite (tabulate f 0 n) l₀) i 0
    go i (yes p) =
        w.low i p
        ∙ sym (get_or_overwrite_below (tabulate f 0 n) l₀ i 0 (omega (arith, length_tabulate f 0 n)) ∙ tabulate_at f n i 0 p)
    go i (no p) = w.high i (omega arith) ∙ sym (get_or_overwrite_above (tabulate f 0 n) l₀ i 0 (omega (arith, length_tabulate f 0 n)))

pub tabulate_constant : (v a n : ℕ) → tabulate (λ _. v) a n ≡ replicate n v
unfolding tabulate
tabulate_constant v a zero = refl
tabulate_constant v a (suc n) = ap (λ (r : List ℕ). v ∷ r) (tabulate_constant v (suc a) n)

-- a table that is known by an equation
pub filled_of : {n : ℕ} {f : ℕ → ℕ} {l₀ l : List ℕ} → n ≤ length l₀ → l ≡ overwrite (tabulate f 0 n) l₀ → Filled n f l₀ l
filled_of {n} {f} {l₀} h e = rw e
    (record { same = overwrite_length f n l₀ h; low = overwrite_low f n l₀ h; high = overwrite_high f n l₀ h })
