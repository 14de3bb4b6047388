-- What deciding leaves of a sound plan.
use Rattle.std.specs.Prelude.{◌≡◌, List, ℕ, ◌<◌, ◌≤◌, length, get_or}
use Rattle.laws.specs.Entry.{entry}
use Rattle.model.specs.Verdict.{rank}
use Rattle.model.specs.Command.{chosen}
use Rattle.model.specs.Practice.{mark}
use Rattle.model.specs.Tables.{Tables}
use Rattle.model.specs.Held.{plan_in}

-- an entry for each state: its rank, the command chosen there, and the mark of its practice
pub record Holds (T : Tables) (ranks commands marks : List ℕ) : Type 0 where
  pub long_ranks : T.size.n ≤ length ranks
  pub long_commands : T.size.n ≤ length commands
  pub long_marks : T.size.n ≤ length marks
  pub ranked : (s : ℕ) → s < T.size.n → get_or ranks s 0 ≡ entry (rank (plan_in T) s)
  pub chose : (s : ℕ) → s < T.size.n → get_or commands s 0 ≡ entry (chosen (plan_in T) s)
  pub marked : (s : ℕ) → s < T.size.n → get_or marks s 0 ≡ mark (plan_in T) s
