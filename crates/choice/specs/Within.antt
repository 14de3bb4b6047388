-- A set of states that a table holds, and the lowest outcome that a command has in it.
use Rattle.std.specs.Prelude.{Bool, List, ℕ, leb, get_or}
use Rattle.std.proofs.Math.Option.{Option}
use Rattle.laws.specs.Sets.{least, found}
use Rattle.model.specs.Tables.{Lists}
use Rattle.model.specs.Places.{list_at}
use Rattle.choice.specs.declared.state_set.StateSet.{StateSet}

-- the states whose entry is at most the limit
abbrev pub within : List ℕ → ℕ → ℕ → Bool
within table limit x = leb (get_or table x 0) limit

abbrev pub members : StateSet → ℕ → Bool
members set = within set.table.now set.limit

-- the lowest outcome in K of the command c, whose outcomes are list c
unfoldable pub command_hit : Lists → (ℕ → Bool) → ℕ → Option ℕ
command_hit L K c = least K (list_at L c)

-- it has one
unfoldable pub command_hits : Lists → (ℕ → Bool) → ℕ → Bool
command_hits L K c = found (command_hit L K c)
