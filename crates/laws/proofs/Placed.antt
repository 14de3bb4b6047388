-- A loop that writes to the places that another table names: they rise, so no entry is written over.
use mathlib.Core.Path.{◌≡◌, sym, ◌∙◌}
use mathlib.Core.List.{List}
use Prim.Native.Nat.{ℕ, ◌+◌, ◌<◌}
use native.Mathlib.Decide.{dec_lt}
use native.Mathlib.Omega.{arith}
use lib.ListN.{length, get_or, set, length-set}
use lib.Seq.{get_or-set_same, get_or-set_other}
use Rattle.laws.specs.Placed.{RisingPlaces, Placed}

module _ {at : List ℕ} {f : ℕ → ℕ} {l₀ : List ℕ} where
  -- one entry more
  pub placed_next : {n i : ℕ} {l : List ℕ} → Placed i at f l₀ l → RisingPlaces n at (length l₀) → i < n → {x v : ℕ} → x ≡ get_or at i 0 → v ≡ f i
      → {l' : List ℕ} → l' ≡ set l x v → Placed (i + 1) at f l₀ l'
  placed_next {n} {i} {l} c r h p q w = rw (w, p, q) (record {
    same = length-set l s (f i) ∙ c.same;
    named = λ j k. named j k (dec_lt j i);
    others = λ x new. get_or-set_other l s x (f i) 0 (λ e. new i (omega arith) (sym e)) ∙ c.others x (λ j k. new j (omega arith));
  })
    where
      s : ℕ
      s = get_or at i 0

      named : (j : ℕ) → j < i + 1 → Dec (j < i) → get_or (set l s (f i)) (get_or at j 0) 0 ≡ f j
      named j k (yes b) = get_or-set_other l s (get_or at j 0) (f i) 0 (λ e. omega (arith, r.rise j i b h)) ∙ c.named j b
      named j k (no b) =
          let e : j ≡ i = omega arith in
          rw e (get_or-set_same l s (f i) 0 (omega (arith, c.same, r.inside i h)))
