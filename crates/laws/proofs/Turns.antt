-- A loop that stores the bytes of f i for each i from a up to an end: what holds before each turn.
use mathlib.Core.Path.{◌≡◌, refl, ap, ◌∙◌}
use mathlib.Core.List.{List, [], ◌∷◌, ◌++◌}
use Prim.Native.Nat.{ℕ, ◌+◌, ◌-◌, ◌<◌, ◌≤◌}
use native.Mathlib.Omega.{arith}
use lib.ListN.{length, length-append}
use Rattle.laws.specs.Lists.{tabulate}
use Rattle.laws.specs.Writes.{put_all}
use Rattle.laws.specs.Wrote.{Wrote}
use Rattle.laws.proofs.Steps.{tabulate_more, tabulate_none}
use Rattle.laws.proofs.Writes.{put_append}
use Rattle.laws.proofs.Wrote.{wrote_length}
use Rattle.laws.proofs.Spreads.{Spread}

module _ {A : Type 0} (g : List A → List ℕ → List ℕ) (f : ℕ → A) (end : ℕ) where
  -- the bytes from i on
  abbrev pub bytes_from : ℕ → List ℕ
  bytes_from i = g (tabulate f i (end - i)) []

  -- what is left stored now gives what all stored at first gives
  pub record Turn (a : ℕ) (out₀ : List ℕ) (place₀ : ℕ) (out : List ℕ) (place i : ℕ) : Type 0 where
    pub same : length out ≡ length out₀
    pub room : place + length (bytes_from i) ≤ length out
    pub stores : put_all out place (bytes_from i) ≡ put_all out₀ place₀ (bytes_from a)
    pub past : place + length (bytes_from i) ≡ place₀ + length (bytes_from a)

module _ {A : Type 0} {g : List A → List ℕ → List ℕ} (p : Spread g) (f : ℕ → A) (end : ℕ) where
  next_bytes : (i : ℕ) → i < end → bytes_from g f end i ≡ g (f i ∷ []) [] ++ bytes_from g f end (i + 1)
  next_bytes i h = rw (tabulate_more f i end h) (p.more (f i) _ [])

  no_bytes : (i : ℕ) → end ≤ i → bytes_from g f end i ≡ []
  no_bytes i h = rw (tabulate_none f i end h) (p.none [])

module _ {A : Type 0} {g : List A → List ℕ → List ℕ} (p : Spread g) {f : ℕ → A} {end : ℕ} where
  pub turn_start : {a place : ℕ} {out : List ℕ} → place + length (bytes_from g f end a) ≤ length out → Turn g f end a out place out place a
  turn_start l = record { same = refl; room = l; stores = refl; past = refl }

  module _ {a place₀ place i : ℕ} {out₀ out : List ℕ} (t : Turn g f end a out₀ place₀ out place i) where
    pub turn_room : i < end → place + length (g (f i ∷ []) []) ≤ length out
    turn_room h = omega (arith, t.room, ap length (next_bytes p f end i h), length-append (g (f i ∷ []) []) (bytes_from g f end (i + 1)))

    pub turn_next : {after : List ℕ} {next : ℕ} → i < end → Wrote out place (g (f i ∷ []) []) after next
        → Turn g f end a out₀ place₀ after next (i + 1)
    turn_next {after} {next} h w =
        let n = length-append (g (f i ∷ []) []) (bytes_from g f end (i + 1)) in
        let l = ap length (next_bytes p f end i h) in
        let s : length after ≡ length out = wrote_length w in
        let e : next ≡ place + length (g (f i ∷ []) []) = w.past in
        record {
          same = s ∙ t.same;
          room = omega (arith, t.room);
          stores = rw (w.stored, e, ← put_append out place (g (f i ∷ []) []) (bytes_from g f end (i + 1)), ← next_bytes p f end i h)
              t.stores;
          past = omega (arith, t.past);
        }

    pub turn_done : end ≤ i → Wrote out₀ place₀ (bytes_from g f end a) out place
    unfolding put_all
    turn_done h = record {
      stored = rw (no_bytes p f end i h) at t.stores;
      past = omega (arith, t.past, ap length (no_bytes p f end i h));
    }
