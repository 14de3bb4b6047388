-- What is stored of a decision, and where there is room for it.
use mathlib.Core.Path.{◌≡◌, refl, ap, ◌∙◌}
use mathlib.Core.Bool.{Bool, true, false}
use mathlib.Core.List.{List, [], ◌∷◌, ◌++◌}
use Prim.Native.Nat.{ℕ, ◌≤◌}
use lib.ListN.{length, take}
use Rattle.std.specs.Prelude.{Ok, Err}
use Rattle.std.specs.List.{flat_map}
use Rattle.std.proofs.lemmas.List.{take_all}
use Rattle.laws.specs.Lists.{joined, overwrite}
use Rattle.model.specs.Refusal.{need, ◌>>=◌, ◌>>◌}
use Rattle.model.specs.Calls.{left, AfterDecide}
use Rattle.model.specs.Boundary.{bytes_for, code}
use Rattle.model.specs.Rooms.{decide_room}
use Rattle.tables.specs.declared.Refusal.{Refusal}
use Rattle.tables.specs.declared.Refusal.TheVariants.{Cramped}
use Rattle.decide.specs.Answers.{after_decide}
use Rattle.gate_deciding.specs.Delivery.{delivery, after_gate_decide, delivery_call}
use Rattle.store.specs.Codes.{code_of}

flat_joined : (t : List (List ℕ)) → flat_map (λ row. row) t ≡ joined t
unfolding joined
flat_joined [] = refl
flat_joined (row ∷ t) = ap (λ (l : List ℕ). row ++ l) (flat_joined t)

-- the rows of a tally, one after the other
pub tally_stored : (t : List (List ℕ)) (n : ℕ) (flat l : List ℕ) → flat ≡ flat_map (λ row. row) t → length flat ≤ n
    → {l' : List ℕ} → l' ≡ overwrite (bytes_for (take n flat)) l → l' ≡ overwrite (bytes_for (joined t)) l
tally_stored t n flat l is long e = e ∙ ap (λ (x : List ℕ). overwrite (bytes_for x) l) (take_all n flat long ∙ is ∙ flat_joined t)

module _ (ranked chosen marked clean : List ℕ) (n : ℕ) (R C M X Y : List ℕ) where
  -- a refusal leaves the slices as they were
  pub not_decided : (r : Refusal)
      → after_gate_decide (code_of (Err r)) R C M X Y ≡ delivery_call (after_decide (Err r) ranked chosen marked clean) n R C M X Y
  unfolding delivery code left ◌>>=◌
  not_decided r = refl

  module _ (counts : List (List ℕ)) where
    abbrev decided : AfterDecide
    decided = after_decide (Ok counts) ranked chosen marked clean

    abbrev room : Bool
    room = decide_room n (length R) (length C) (length M) (length X) (length Y)

    pub cramped : {told : Bool} → told ≡ room → told ≡ false → after_gate_decide (code_of (Err Cramped)) R C M X Y ≡ delivery_call decided n R C M X Y
    unfolding delivery code left need ◌>>◌ ◌>>=◌
    cramped says h = rw (← says, h)

    pub delivered : {told : Bool} → told ≡ room → told ≡ true → {R' C' M' X' Y' : List ℕ}
        → R' ≡ overwrite (bytes_for (take n ranked)) R → C' ≡ overwrite (bytes_for (take n chosen)) C
        → M' ≡ overwrite (bytes_for (take n marked)) M → X' ≡ overwrite (bytes_for (take n clean)) X
        → Y' ≡ overwrite (bytes_for (joined counts)) Y → after_gate_decide 0 R' C' M' X' Y' ≡ delivery_call decided n R C M X Y
    unfolding delivery code left need ◌>>◌ ◌>>=◌
    delivered says h r c m x y = rw (← says, h, r, c, m, x, y)
