-- Plans (docs/SPECIFICATION.md, part P), as functions of the numbers of their states and commands.
use Rattle.std.specs.Prelude.{◌≡◌, Bool, ◌&&◌, ◌||◌, ℕ, ◌<◌, ◌≤◌, eqb, ltb}
use mathlib.Core.List.{List, Memᴰ}

pub record Plan : Type 0 where
  -- rule P1: how many states there are, and which is the start
  pub states : ℕ
  pub start : ℕ
  -- rule P2: a state's kind
  pub kind : ℕ → ℕ
  -- rule P3: how many commands a state has
  pub commands : ℕ → ℕ
  -- rule P4: on which states a command may land
  pub outcomes : ℕ → ℕ → List ℕ
  -- rule P5: the practice; a number not below `commands s` stands for none
  pub practice : ℕ → ℕ

unfoldable pub ordinary : Plan → ℕ → Bool
ordinary P s = eqb (P.kind s) 0

-- rule P8: an ordinary state that has a command
unfoldable pub active : Plan → ℕ → Bool
active P s = ordinary P s && ltb 0 (P.commands s)

-- and one that has none, by a state's kind and the number of its commands
abbrev pub stuck_at : ℕ → ℕ → Bool
stuck_at kind count = eqb kind 0 && eqb count 0

unfoldable pub stuck : Plan → ℕ → Bool
stuck P s = stuck_at (P.kind s) (P.commands s)

-- what counts as failing (rule P9): a state of kind failing, and a stuck one
abbrev pub failing_at : ℕ → ℕ → Bool
failing_at kind count = eqb kind 1 || stuck_at kind count

unfoldable pub failing : Plan → ℕ → Bool
failing P s = failing_at (P.kind s) (P.commands s)

-- what is at rest (rule P9): a state of kind rest, and no other
unfoldable pub resting : Plan → ℕ → Bool
resting P s = eqb (P.kind s) 2

-- the practice names a command
unfoldable pub has_practice : Plan → ℕ → Bool
has_practice P s = ltb (P.practice s) (P.commands s)

-- What the theory asks of a plan. Every plan that a file gives has it (proofs/Valid.antt, `file_valid`).
pub record Valid (P : Plan) : Type 0 where
  pub kinds : (s : ℕ) → s < P.states → P.kind s ≤ 2
  -- rule P3: only ordinary states have commands
  pub idle : (s c : ℕ) → s < P.states → c < P.commands s → P.kind s ≡ 0
  pub inside : (s c x : ℕ) → s < P.states → c < P.commands s → Memᴰ x (P.outcomes s c) → x < P.states
