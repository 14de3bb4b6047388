-- What tables describe, and the plan of which verdicts speak.
use Rattle.std.specs.Prelude.{[], ℕ, length, get_or}
use Rattle.laws.specs.Lists.{tabulate}
use Rattle.laws.specs.Entry.{FFFF}
use Rattle.model.specs.Plan.{Plan}
use Rattle.model.specs.File.{State, state_from, Tree}
use Rattle.model.specs.Tables.{Tables}
use Rattle.model.specs.Places.{first_command, command_count, field_at, outcomes_at}

-- the state s, read off the tables
unfoldable pub state_at : Tables → ℕ → State
state_at T s = state_from (field_at T s) (tabulate (outcomes_at T) (first_command T s) (command_count T s))

unfoldable pub tree_of : Tables → Tree
tree_of T = record { start = T.size.start; states = tabulate (state_at T) 0 T.size.n }

-- the state s; past the last, a rest state
unfoldable pub state_of : Tree → ℕ → State
state_of p s = get_or p.states s (record { kind = 2; practice = FFFF; commands = [] })

-- the plan that a file describes
unfoldable pub plan_of : Tree → Plan
plan_of p = record {
  states = length p.states;
  start = p.start;
  kind = λ s. (state_of p s).kind;
  commands = λ s. length (state_of p s).commands;
  outcomes = λ s c. get_or (state_of p s).commands c [];
  practice = λ s. (state_of p s).practice;
}

-- the plan that tables hold
unfoldable pub plan_in : Tables → Plan
plan_in T = plan_of (tree_of T)
