-- What it means that carrying back is answered (docs/SPECIFICATION.md, part Y).
use Rattle.std.specs.Prelude.{◌≡◌, List, ℕ, ◌<◌, length, get_or, take}
use Rattle.laws.specs.Entry.{FFFF}
use Rattle.model.specs.Refusal.{given}
use Rattle.model.specs.Tables.{Tables}
use Rattle.model.specs.Held.{plan_in}
use Rattle.model.specs.Calls.{decide_call}
use Rattle.model.specs.Trimmed.{Enters, Trimmed}
use Rattle.model.specs.Carry.{picked}

-- rule Y6: `back` has the entries of `commands` at the states of T that a run from the start comes to, and FFFF at the others
pub record KeptOf (T : Tables) (commands back : List ℕ) : Type 0 where
  pub kept : (s : ℕ) → s < T.size.n → Enters (plan_in T) s → get_or back s FFFF ≡ get_or commands s FFFF
  pub others : (s : ℕ) → s < T.size.n → (Enters (plan_in T) s → ⊥) → get_or back s 0 ≡ FFFF

-- What it means that the table is carried back by the map `olds` to n old numbers, and `back` is left.
pub record Carried (n : ℕ) (olds table back : List ℕ) : Type 0 where
  -- rule Y2: a state that the map names has the entry of its new number, and any other has FFFF
  pub kept : (i : ℕ) → i < length olds → get_or back (get_or olds i 0) FFFF ≡ get_or table i FFFF
  pub others : (s : ℕ) → s < n → ((i : ℕ) → i < length olds → get_or olds i 0 ≡ s → ⊥) → get_or back s 0 ≡ FFFF
  -- rule Y3: what is picked out of it is the front of the table
  pub picks : picked olds back ≡ take (length olds) table
  -- rule Y6: if the map is what trimming T left beside U, and the table the commands that deciding U leaves, they are those of deciding T,
  -- whatever deciding is lent on either plan, if it answers
  pub decided : (T U : Tables) (map : List ℕ) → Trimmed T U map → T.size.n ≡ n → take U.size.n map ≡ olds
      → (ranks commands marks scratch ranks' commands' marks' scratch' : List ℕ) (counts counts' : List (List ℕ))
      → let D = decide_call T ranks commands marks scratch in
      let E = decide_call U ranks' commands' marks' scratch' in
      D.answers ≡ given counts → E.answers ≡ given counts' → take U.size.n table ≡ take U.size.n E.commands
      → KeptOf T D.commands back
