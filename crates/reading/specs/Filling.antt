-- The states that stand in the bytes of a file that can be read, and the room that they take.
use Rattle.std.specs.Prelude.{List, [], ◌∷◌, ℕ, zero, suc, ◌+◌, ◌*◌, ◌/◌, ◌≤◌, length, drop}
use Rattle.laws.specs.Entry.{be16}
use Rattle.laws.specs.Lists.{joined}
use Rattle.model.specs.File.{State, state_from, state_values, max_commands, max_outcomes, entries}
use Rattle.model.specs.Tables.{all_commands}
use Rattle.reading.specs.declared.bytes.Mark.{Mark}
use Rattle.reading.specs.Meaning.{bytes_from, moved}

-- the k commands at the front
unfoldable pub commands_in : ℕ → List ℕ → List (List ℕ)
commands_in zero s = []
commands_in (suc k) s = entries (be16 s 1 / 2) (drop 3 s) ∷ commands_in k (drop (3 + be16 s 1 / 2 * 2) s)

-- their bytes
abbrev pub commands_length : List (List ℕ) → ℕ
commands_length cs = length cs * 3 + length (joined cs) * 2

-- the k states at the front, with their commands
unfoldable pub states_in : ℕ → List ℕ → List State
states_in zero s = []
states_in (suc k) s =
    let cs = commands_in (state_values s).count (drop 8 s) in
    state_from (state_values s) cs ∷ states_in k (drop (8 + commands_length cs) s)

-- their bytes
abbrev pub states_length : List State → ℕ
states_length ss = length ss * 8 + commands_length (all_commands ss)

-- the commands of the state at a mark
abbrev pub commands_at : List ℕ → Mark → List (List ℕ)
commands_at file k = commands_in (state_values (bytes_from file k)).count (bytes_from file (moved k 8))

-- where the states begin, and the mark past commands
abbrev pub states_mark : Mark
states_mark = record { at = 7; m = 0; t = 0 }

abbrev pub past_commands : Mark → List (List ℕ) → Mark
past_commands k cs = record { at = k.at + commands_length cs; m = k.m + length cs; t = k.t + length (joined cs) }

-- from the mark on, a file of so many bytes and tables of so many places have room for the commands
pub record Room (bytes firsts outcomes : ℕ) (k : Mark) (cs : List (List ℕ)) : Type 0 where
  pub in_file : k.at + commands_length cs ≤ bytes
  pub in_firsts : k.m + length cs ≤ firsts
  pub in_outcomes : k.t + length (joined cs) ≤ outcomes
  pub few : k.t + length (joined cs) ≤ max_outcomes

-- and, from row i on, for the states
pub record StatesRoom (bytes rows firsts outcomes : ℕ) (i : ℕ) (k : Mark) (ss : List State) : Type 0 where
  pub in_file : k.at + states_length ss ≤ bytes
  pub in_rows : i + length ss ≤ rows
  pub in_firsts : k.m + length (all_commands ss) ≤ firsts
  pub in_outcomes : k.t + length (joined (all_commands ss)) ≤ outcomes
  pub few_commands : k.m + length (all_commands ss) ≤ max_commands
  pub few_outcomes : k.t + length (joined (all_commands ss)) ≤ max_outcomes
