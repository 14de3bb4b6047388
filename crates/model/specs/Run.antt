-- Moves and runs (docs/SPECIFICATION.md, part R).
use Rattle.std.specs.Prelude.{◌≡◌, true, false, ℕ, suc, ◌<◌}
use mathlib.Core.List.{Memᴰ}
use Rattle.model.specs.Plan.{Plan, ordinary, failing}

infixl 40 ◌▸◌
-- rule R1: the command that is issued, and the outcome on which the works land
pub record Move : Type 0 where
  pub command : ℕ
  pub landing : ℕ

-- rule R2: no move yet, or a run and the move that follows it
pub data Run : Type 0 where
  no_moves : Run
  ◌▸◌ : Run → Move → Run

-- the state where a run from s has come to
unfoldable pub present : ℕ → Run → ℕ
present s no_moves = s
present s (w ▸ m) = m.landing

-- how many moves a run has
abbrev pub moves : Run → ℕ
moves no_moves = 0
moves (w ▸ m) = suc (moves w)

-- The move m can be made at t (rules R1, R3): t is ordinary and has the command, and the command has the landing.
pub record CanMove (P : Plan) (t : ℕ) (m : Move) : Type 0 where
  pub leaves : ordinary P t ≡ true
  pub issued : m.command < P.commands t
  pub landed : Memᴰ m.landing (P.outcomes t m.command)

-- rule R2: each move can be made where the moves before it have come to
abbrev pub IsRun : Plan → ℕ → Run → Type 0
IsRun P s no_moves = Unit {0}
IsRun P s (w ▸ m) = IsRun P s w × CanMove P (present s w) m

-- rule R7: it has come to a failing state
abbrev pub RunFails : Plan → ℕ → Run → Type 0
RunFails P s w = failing P (present s w) ≡ true

abbrev pub RunHolds : Plan → ℕ → Run → Type 0
RunHolds P s w = failing P (present s w) ≡ false
