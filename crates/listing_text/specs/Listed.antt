-- What a state's line is written from.
use Rattle.std.specs.Prelude.{◌≡◌, ℕ}
use Rattle.std.proofs.Math.Option.{Option}
use Rattle.laws.specs.Entry.{from_entry}
use Rattle.model.specs.Plan.{Plan}
use Rattle.model.specs.Verdict.{rank}
use Rattle.model.specs.Command.{chosen}
use Rattle.model.specs.Practice.{mark, fault_outcome}

-- the state's kind, deciding's entries for it, and the outcome that is named at a fault
pub record Listed (P : Plan) (s kind rank_entry command_entry mark_entry : ℕ) (outcome : Option ℕ) : Type 0 where
  pub kind_is : P.kind s ≡ kind
  pub rank_is : rank P s ≡ from_entry rank_entry
  pub chosen_is : chosen P s ≡ from_entry command_entry
  pub mark_is : mark P s ≡ mark_entry
  pub outcome_is : fault_outcome P s ≡ outcome
