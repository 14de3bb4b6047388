-- The keeper's practice judged (docs/SPECIFICATION.md, part V).
use Rattle.std.specs.Prelude.{Bool, not, cond, ◌&&◌, List, [], ◌∷◌, ℕ, ◌+◌}
use Rattle.std.proofs.Math.Option.{Option, none, some}
use Rattle.laws.specs.Sets.{found, how_many, grow}
use Rattle.model.specs.Plan.{Plan, failing, has_practice}
use Rattle.model.specs.Verdict.{hit, lost, safe}

-- rules V8 and V9: the practice as a table of commands
unfoldable pub followed : Plan → ℕ → Option ℕ
followed P s = cond (has_practice P s) (some (P.practice s)) none

-- rule V16: the lowest outcome in K that the practice has, where one is given
unfoldable pub practice_hit : Plan → (ℕ → Bool) → ℕ → Option ℕ
practice_hit P K s = cond (has_practice P s) (hit P K s (P.practice s)) none

-- the practice is given at s and has an outcome in K
unfoldable pub practice_hits : Plan → (ℕ → Bool) → ℕ → Bool
practice_hits P K s = found (practice_hit P K s)

-- rule V8. That it is so of runs under the practice is proofs/PracticeRuns.antt, `practice_judged`.
unfoldable pub practice_fails : Plan → ℕ → Bool
practice_fails P = grow (practice_hits P) (failing P) P.states

-- rule V10: safe, though the practice fails from there
unfoldable pub bug : Plan → ℕ → Bool
bug P s = safe P s && practice_fails P s

-- rule V16: the outcome that is named at a safe state, the lowest lost one that the practice has
unfoldable pub fault_outcome : Plan → ℕ → Option ℕ
fault_outcome P s = cond (safe P s) (practice_hit P (lost P) s) none

-- rule V11: safe, though the practice may land on a lost state
unfoldable pub fault : Plan → ℕ → Bool
fault P s = found (fault_outcome P s)

-- rule V13: 1 if the practice fails, and 2 more at a fault
abbrev pub mark_of : Bool → Bool → ℕ
mark_of fails isFault = cond fails 1 0 + cond isFault 2 0

unfoldable pub mark : Plan → ℕ → ℕ
mark P s = mark_of (practice_fails P s) (fault P s)

-- rule V14: the three counts of a row, over those of the first n states that are in it
unfoldable pub tally_row : (ℕ → Bool) → (ℕ → Bool) → (ℕ → Bool) → ℕ → List ℕ
tally_row row given fails n =
    how_many (λ s. row s && given s && not (fails s)) n
    ∷ how_many (λ s. row s && given s && fails s) n
    ∷ how_many (λ s. row s && not (given s)) n
    ∷ []

-- the counts of the first n states, by whether a state is lost
abbrev pub tally_of : (ℕ → Bool) → (ℕ → Bool) → (ℕ → Bool) → ℕ → List (List ℕ)
tally_of isLost given fails n = tally_row (λ s. not (isLost s)) given fails n ∷ tally_row isLost given fails n ∷ []

-- rules V14 and V15
unfoldable pub tally : Plan → List (List ℕ)
tally P = tally_of (lost P) (has_practice P) (practice_fails P) P.states
