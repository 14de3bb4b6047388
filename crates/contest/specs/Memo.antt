-- The memo of the keeper's turns that have been worked out, and what is known of a turn without trying a command.
use Rattle.std.specs.Prelude.{◌≡◌, Bool, false, List, ◌⊎◌, Option, None, Some, MatchOption, ℕ, ◌+◌, ◌*◌, ◌<◌, ◌≤◌, length, get_or}
use Rattle.model.specs.Plan.{Plan, failing, resting}
use Rattle.model.specs.Contest.{keeper_turn, max_moves}

-- the place of the turn at s with k moves left, which are 0 to 8
abbrev pub memo_place : ℕ → ℕ → ℕ
memo_place s k = 9 * s + k

-- what the memo has of that turn: whether it is held, or none where that is not known
abbrev pub kept : List (Option Bool) → ℕ → ℕ → Option Bool
kept memo s k = get_or memo (memo_place s k) None

-- what the memo has of each of n states is not known or true
pub record Told (P : Plan) (n : ℕ) (memo : List (Option Bool)) : Type 0 where
  pub long : 9 * n ≤ length memo
  pub told : (s k : ℕ) → s < n → k ≤ max_moves → (kept memo s k ≡ None) ⊎ (kept memo s k ≡ Some (keeper_turn P k s))

-- a turn that commands have to be tried for
pub record Open (P : Plan) (k s : ℕ) : Type 0 where
  pub moves : 0 < k
  pub stands : failing P s ≡ false
  pub tries : resting P s ≡ false
  pub commands : 0 < P.commands s

-- the turn is x, or commands have to be tried
abbrev pub Known : Plan → ℕ → ℕ → Option Bool → Type 0
Known P k s x = MatchOption x (Open P k s) (λ held. held ≡ keeper_turn P k s)

-- what became of the memo: it is as long as before and true, and no turn that it knew is forgotten
pub record Remembers (P : Plan) (n : ℕ) (memo₀ memo : List (Option Bool)) : Type 0 where
  pub told : Told P n memo
  pub same : length memo ≡ length memo₀
  pub keeps : (i : ℕ) → get_or memo i None ≡ None → get_or memo₀ i None ≡ None

-- the memo knows the turn at s with k moves left
abbrev pub Knows : Plan → List (Option Bool) → ℕ → ℕ → Type 0
Knows P memo s k = kept memo s k ≡ Some (keeper_turn P k s)
