-- What a list table of a sound plan has, whatever the rows are: every place that it names is in range, and each list rises.
use Rattle.std.specs.Prelude.{List, ℕ, suc, ◌<◌, ◌≤◌, length, get_or}
use Rattle.laws.specs.Starts.{Parts}
use Rattle.laws.specs.Rising.{RisesIn}
use Rattle.model.specs.File.{max_states, max_commands, max_outcomes}
use Rattle.model.specs.Tables.{Lists}
use Rattle.model.specs.Places.{start_in}

-- numbers and lent slices as a list table
abbrev pub list_table : ℕ → ℕ → List ℕ → List ℕ → Lists
list_table count end firsts entries = record { count = count; end = end; firsts = firsts; entries = entries }

-- the first entries are states below n
pub record States (n end : ℕ) (entries : List ℕ) : Type 0 where
  pub few : end ≤ max_outcomes
  pub long : end ≤ length entries
  pub inside : (j : ℕ) → j < end → get_or entries j 0 < n

-- a list of states below n for each command
pub record Ready (n : ℕ) (L : Lists) : Type 0 where
  pub few : n ≤ max_states
  pub few_commands : L.count ≤ max_commands
  pub long_firsts : L.count ≤ length L.firsts
  pub parts : Parts L.firsts L.count L.end
  pub states : States n L.end L.entries
  pub rising : (i : ℕ) → i < L.count → RisesIn L.entries (start_in L i) (start_in L (suc i))
