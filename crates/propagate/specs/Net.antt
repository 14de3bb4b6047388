-- Losing states, layer by layer: a state is lost by a set of states if it has a command that counts, and every one that counts has
-- an outcome in the set. Which commands count is a range for each state: all its commands, or its practice alone, or none.
use Rattle.std.specs.Prelude.{◌≡◌, Bool, ◌&&◌, List, ◌⊎◌, ℕ, suc, ◌+◌, ◌-◌, ◌≤◌, ◌<◌, eqb, ltb, length, get_or}
use Rattle.std.proofs.Math.Option.{Option}
use Rattle.laws.specs.Entry.{FFFF}
use Rattle.laws.specs.Sets.{every, lowest, grow}
use Rattle.model.specs.Tables.{Lists}
use Rattle.choice.specs.Within.{command_hits}
use Rattle.index.specs.Grouping.{Grouped}

-- so many states, and commands with their outcomes; the commands that count at s are those from `froms` at s up to `tos` at s
pub record Net : Type 0 where
  pub states : ℕ
  pub commands : Lists
  pub froms : List ℕ
  pub tos : List ℕ

abbrev pub net_of : ℕ → Lists → List ℕ → List ℕ → Net
net_of n C froms tos = record { states = n; commands = C; froms = froms; tos = tos }

unfoldable pub from : Net → ℕ → ℕ
from N s = get_or N.froms s 0

unfoldable pub to : Net → ℕ → ℕ
to N s = get_or N.tos s 0

-- s has commands that count, every one of which has an outcome in K
unfoldable pub losing : Net → (ℕ → Bool) → ℕ → Bool
losing N K s = ltb (from N s) (to N s) && every (λ i. command_hits N.commands K (from N s + i)) (to N s - from N s)

-- K, and what loses by it in k steps
abbrev pub net_layer : Net → (ℕ → Bool) → ℕ → ℕ → Bool
net_layer N K = grow (losing N) K

-- in how many steps s is lost. No step after n adds a state, so no more are looked at.
unfoldable pub depth : Net → (ℕ → Bool) → ℕ → Option ℕ
depth N K s = lowest (λ k. net_layer N K k s) (suc N.states)

-- the states that a table gives rank 0
abbrev pub seeds : List ℕ → ℕ → Bool
seeds ranks s = eqb (get_or ranks s 1) 0

-- each rank is 0 or none
pub record Seeded (n : ℕ) (ranks : List ℕ) : Type 0 where
  pub seeded : (s : ℕ) → s < n → (get_or ranks s 0 ≡ 0) ⊎ (get_or ranks s 0 ≡ FFFF)

-- what is asked of the ends of the ranges
pub record Ranges (n count : ℕ) (tos : List ℕ) : Type 0 where
  pub long : n ≤ length tos
  pub inside : (s : ℕ) → s < n → get_or tos s 0 ≤ count

-- what is asked of the index: the commands that have each state as an outcome, and a state for each command
pub record Indexed (n : ℕ) (C : Lists) (offsets users owner : List ℕ) : Type 0 where
  pub offsets_long : n ≤ length offsets
  pub users_long : C.end ≤ length users
  pub owner_long : C.count ≤ length owner
  pub grouped : Grouped n C offsets users
  pub inside : (c : ℕ) → c < C.count → get_or owner c 0 < n

-- the owner of each command that counts at a state is that state
pub record Owns (N : Net) (owner : List ℕ) : Type 0 where
  pub owners : (s c : ℕ) → s < N.states → from N s ≤ c → c < to N s → get_or owner c 0 ≡ s
