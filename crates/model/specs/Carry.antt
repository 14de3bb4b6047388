-- Tables of a trimmed plan carried back to the old numbers (docs/SPECIFICATION.md, part Y), and the call.
use Rattle.std.specs.Prelude.{◌≡◌, Bool, ◌&&◌, List, map, ◌⊎◌, ℕ, suc, ◌-◌, ◌<◌, ◌≤◌, leb, ltb, eqb, length, get_or}
use Rattle.std.proofs.Math.Option.{Option, none, some}
use Rattle.laws.specs.Sets.{every, lowest}
use Rattle.laws.specs.Lists.{tabulate}
use Rattle.laws.specs.Entry.{FFFF}
use Rattle.model.specs.Refusal.{Cramped, Unsound, Answer, given, answer, need, ◌>>◌}
use Rattle.model.specs.File.{max_states}
use Rattle.model.specs.Calls.{left}

-- ---- the table under the old numbers

-- rule Y2: the new number of a state that the map has; of others, none
unfoldable pub new_in : List ℕ → ℕ → Option ℕ
new_in olds s = lowest (λ i. eqb (get_or olds i 0) s) (length olds)

-- rule Y2: the entry of a new number; for none, FFFF
unfoldable pub entry_at : List ℕ → Option ℕ → ℕ
entry_at table none = FFFF
entry_at table (some i) = get_or table i FFFF

-- rule Y2: an entry for each of the n old numbers
unfoldable pub carried : ℕ → List ℕ → List ℕ → List ℕ
carried n olds table = tabulate (λ s. entry_at table (new_in olds s)) 0 n

-- rule Y3: what a table has at the states of the map
unfoldable pub picked : List ℕ → List ℕ → List ℕ
picked olds table = map (λ s. get_or table s FFFF) olds

-- ---- the call

-- rule Y4: what refusal 10 is for. The trimmed table has `entries` entries.
abbrev pub CarryUnsound : ℕ → List ℕ → ℕ → Type 0
CarryUnsound n olds entries =
    ((n ≡ 0) ⊎ (max_states < n))
    ⊎ (((i : ℕ) × (suc i < length olds) × (get_or olds (suc i) 0 ≤ get_or olds i 0))
    ⊎ (((i : ℕ) × (i < length olds) × (n ≤ get_or olds i 0)) ⊎ (entries < length olds)))

-- rule Y4 as a test that computes: nothing of that is so
unfoldable pub carry_sound : ℕ → List ℕ → ℕ → Bool
carry_sound n olds entries =
    leb 1 n && leb n max_states && every (λ i. ltb (get_or olds i 0) (get_or olds (suc i) 0)) (length olds - 1)
    && every (λ i. ltb (get_or olds i 0) n) (length olds) && leb (length olds) entries

-- rules C12 and E17: old n, map and trimmed table are sound, then there is room.
-- Given is the table under the old numbers; `carry_call` has what is answered.
unfoldable pub carrying : ℕ → List ℕ → List ℕ → ℕ → Answer (List ℕ)
carrying n olds table places = do
  need Unsound (carry_sound n olds (length table))
  need Cramped (leb n places)
  given (carried n olds table)

pub record AfterCarry : Type 0 where
  pub answers : Answer (Unit {0})
  pub places : List ℕ

-- rule C12: nothing is answered but that the call is not refused
abbrev pub carry_call : ℕ → List ℕ → List ℕ → List ℕ → AfterCarry
carry_call n olds table places =
    let a = carrying n olds table (length places) in
    record { answers = answer (λ _. tt) a; places = left (λ entries. entries) a places }
