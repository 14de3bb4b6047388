-- The last pass over the states: the command, the mark and the place in the tally of each. The lost states are those of a rank, and the
-- practice fails from those that the practice's own propagation gives a number.
use Rattle.std.specs.Prelude.{◌≡◌, Bool, true, not, cond, ◌&&◌, List, [], ◌∷◌, ℕ, ◌+◌, ◌<◌, eqb, get_or, set, Option as CodeOption, None, Some}
use Rattle.std.proofs.Math.Option.{Option, none}
use Rattle.laws.specs.Entry.{entry, highest}
use Rattle.laws.specs.Filled.{Filled}
use Rattle.model.specs.File.{max_states}
use Rattle.model.specs.Plan.{Plan, has_practice}
use Rattle.model.specs.Command.{choice}
use Rattle.model.specs.Practice.{practice_hits, mark_of, tally_of}
use Rattle.choice.specs.Within.{within}
use Rattle.decide.specs.declared.verdicts.Place.{Place}
use Rattle.decide.specs.declared.verdicts.Practice.{Practice}
use Rattle.decide.specs.declared.verdicts.Practice.TheVariants.{Holds, Fails, Missing}

-- the states whose entry is not FFFF; as in `within`, a place past the table counts as 0
abbrev pub numbered : List ℕ → ℕ → Bool
numbered table = within table highest

-- the command of a state, by whether it is lost (rule V7)
unfoldable pub unless_lost : Bool → Option ℕ → Option ℕ
unless_lost isLost command = cond isLost none command

-- what is chosen is not the practice
abbrev pub is_other : CodeOption ℕ → ℕ → Bool
is_other None practice = true
is_other (Some c) practice = not (eqb c practice)

-- the mark of s, where the states of L are lost
unfoldable pub mark_at : Plan → (ℕ → Bool) → Bool → ℕ → ℕ
mark_at P L fails s = mark_of fails (not (L s) && practice_hits P L s)

-- rule V14: the tally's column, by whether there is a practice and whether it fails
abbrev pub practice_of : Bool → Bool → Practice
practice_of given fails = cond given (cond fails Fails Holds) Missing

abbrev pub column_of : Practice → ℕ
column_of Holds = 0
column_of Fails = 1
column_of Missing = 2

-- a row of the tally, with one more in a column where the state belongs to the row
abbrev pub one_more : List ℕ → Bool → Practice → List ℕ
one_more row here p = cond here (set row (column_of p) (get_or row (column_of p) 0 + 1)) row

-- one more at a place of the tally
abbrev pub added : List (List ℕ) → Place → List (List ℕ)
added t p = one_more (get_or t 0 []) (not p.lost) p.practice ∷ one_more (get_or t 1 []) p.lost p.practice ∷ []

-- each count of a row is below the most states that a plan may have
abbrev pub Low : List ℕ → Type 0
Low row = (get_or row 0 0 < max_states) × (get_or row 1 0 < max_states) × (get_or row 2 0 < max_states)

-- the state s is judged
pub record StateJudged (P : Plan) (L : ℕ → Bool) (fails : Bool) (s : ℕ) (commands marks : List ℕ) (p : Place) (commands' marks' : List ℕ) :
    Type 0 where
  pub took : commands' ≡ set commands s (entry (unless_lost (L s) (choice P L s)))
  pub marked : marks' ≡ set marks s (mark_at P L fails s)
  pub row : p.lost ≡ L s
  pub column : p.practice ≡ practice_of (has_practice P s) fails

-- the first n states are judged
pub record StatesJudged (P : Plan) (L : ℕ → Bool) (n : ℕ) (commands marks : List ℕ) (t : List (List ℕ)) (commands' marks' : List ℕ) : Type 0
  where
    pub took : Filled n (λ s. entry (unless_lost (L s) (choice P L s))) commands commands'
    pub marked : Filled n (λ s. mark_at P L (numbered marks s) s) marks marks'
    pub counted : t ≡ tally_of L (has_practice P) (numbered marks) n
