-- A walk that has gone on from one state more, and one that has gone on from all that it has reached.
use Rattle.std.specs.Prelude.{◌≡◌, Bool, true, List, ℕ, ◌+◌, ◌<◌, ◌≤◌, get_or, set, Option, Some}
use Rattle.laws.specs.Entry.{entry}
use Rattle.model.specs.Plan.{Plan}
use Rattle.model.specs.Command.{choice}
use Rattle.model.specs.Search.{lands}
use Rattle.walks.specs.Flags.{known_in}
use Rattle.walks.specs.Spread.{Spread}
use Rattle.search.specs.declared.walk.Progress.{Progress}
use Rattle.search.specs.Marks.{none_left}
use Rattle.search.specs.Underway.{Underway}

-- the walk went on from s: it took the command there, and that command's outcomes into the walk
pub record Expanded (P : Plan) (n q s mark : ℕ) (commands flags queue : List ℕ) (q' : ℕ) (commands' flags' queue' : List ℕ) : Type 0 where
  pub took : commands' ≡ set commands s (entry (choice P (known_in flags) s))
  pub spreads : Spread n q (lands P s (choice P (known_in flags) s)) mark flags queue q' flags' queue'

-- `low` is the lowest place from which a marked state among the first h of the queue was reached, and none if none of them is marked
pub record Lowest (P : Plan) (K : ℕ → Bool) (low : Option ℕ) (h : ℕ) (flags queue : List ℕ) : Type 0 where
  pub each : (i : ℕ) → i < h → none_left P K (get_or queue i 0) ≡ true
      → (v : ℕ) × (low ≡ Some v) × (v + 2 ≤ get_or flags (get_or queue i 0) 0)
  pub one : (v : ℕ) → low ≡ Some v
      → (i : ℕ) × (i < h) × (none_left P K (get_or queue i 0) ≡ true) × (get_or flags (get_or queue i 0) 0 ≡ v + 2)

-- the walk from a is done
pub record Walked (P : Plan) (n : ℕ) (K : ℕ → Bool) (a : ℕ) (r : Progress) (commands flags queue : List ℕ) : Type 0 where
  pub done : Underway P n K a r.reached r.reached commands flags queue
  pub lowest : Lowest P K r.low r.reached flags queue
