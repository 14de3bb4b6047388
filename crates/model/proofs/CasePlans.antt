-- Small plans for the computed cases, from their states; the start is 0. And tables of one state.
use mathlib.Core.List.{List, [], ◌∷◌}
use Prim.Native.Nat.{ℕ}
use Rattle.laws.specs.Entry.{FFFF}
use Rattle.model.specs.Plan.{Plan}
use Rattle.model.specs.File.{State}
use Rattle.model.specs.Tables.{Tables}
use Rattle.model.specs.Held.{plan_of}

abbrev pub acting : ℕ → List (List ℕ) → State
acting practice commands = record { kind = 0; practice = practice; commands = commands }

abbrev pub rest : State
rest = record { kind = 2; practice = FFFF; commands = [] }

abbrev pub failed : State
failed = record { kind = 1; practice = FFFF; commands = [] }

abbrev pub planned : List State → Plan
planned ss = plan_of (record { start = 0; states = ss })

-- one state, which is at rest; the start is said to be s
abbrev pub resting_at : ℕ → Tables
resting_at s = record {
  size = record { n = 1; m = 0; t = 0; start = s };
  rows = record { kind = 2; first = 0; practice = FFFF } ∷ [];
  firsts = [];
  outcomes = [];
}
