-- Bytes put one after another, and a loop that puts the bytes of f i for each i from a up to an end.
use mathlib.Core.Path.{◌≡◌, refl, ◌∙◌}
use mathlib.Core.List.{List, [], ◌∷◌, ◌++◌}
use Prim.Native.Nat.{ℕ, ◌+◌, ◌<◌, ◌≤◌}
use native.Mathlib.Nat.{sub-zero}
use lib.ListN.{length, get_or}
use Rattle.laws.specs.Entry.{twos}
use Rattle.laws.specs.Wrote.{Wrote}
use Rattle.laws.proofs.Lists.{tabulate_is}
use Rattle.laws.proofs.Wrote.{wrote_then, wrote_length}
use Rattle.laws.proofs.Spreads.{Spread}
use Rattle.laws.proofs.Turns.{Turn, bytes_from, turn_start, turn_room, turn_next, turn_done}
use Rattle.writing.specs.declared.bytes.Output.{Output}
use Rattle.writing.specs.Puts.{Room, Put}

module _ {a b : Output} {xs : List ℕ} where
  wrote : Put a xs b → Wrote a.bytes.now a.place xs b.bytes.now b.place
  wrote p = record { stored = p.stored; past = p.past }

  pub put : b.bytes.ghost_name ≡ a.bytes.ghost_name → Wrote a.bytes.now a.place xs b.bytes.now b.place → Put a xs b
  put e w = record { same = e; keeps = wrote_length w; stored = w.stored; past = w.past }

pub put_then : {a b c : Output} {xs ys : List ℕ} → Put a xs b → Put b ys c → Put a (xs ++ ys) c
put_then p q = put (q.same ∙ p.same) (wrote_then (wrote p) (wrote q))

-- all numbers of a list
pub numbers_from : (numbers : List ℕ) → bytes_from twos (λ i. get_or numbers i 0) (length numbers) 0 ≡ twos numbers []
numbers_from numbers = rw (sub-zero, tabulate_is (λ i. get_or numbers i 0) numbers 0 (λ i h. refl))

-- what holds before the turn at i
pub record Putting {A : Type 0} (g : List A → List ℕ → List ℕ) (f : ℕ → A) (end a : ℕ) (before out : Output) (i : ℕ) : Type 0 where
  pub same : out.bytes.ghost_name ≡ before.bytes.ghost_name
  pub turn : Turn g f end a before.bytes.now before.place out.bytes.now out.place i

module _ {A : Type 0} {g : List A → List ℕ → List ℕ} (p : Spread g) {f : ℕ → A} {end a : ℕ} where
  pub putting_start : {out : Output} → Room out (length (bytes_from g f end a)) → Putting g f end a out out a
  putting_start r = record { same = refl; turn = turn_start p r }

  module _ {i : ℕ} {before out : Output} (t : Putting g f end a before out i) where
    pub putting_room : i < end → Room out (length (g (f i ∷ []) []))
    putting_room h = turn_room p t.turn h

    pub putting_next : {after : Output} → i < end → Put out (g (f i ∷ []) []) after → Putting g f end a before after (i + 1)
    putting_next h q = record { same = q.same ∙ t.same; turn = turn_next p t.turn h (wrote q) }

    pub putting_done : end ≤ i → Put before (bytes_from g f end a) out
    putting_done h = put t.same (turn_done p t.turn h)
