-- What is read of a state for the search: whether it is known at first, and whether a walk marked it.
use Rattle.std.specs.Prelude.{Bool, not, cond, ◌&&◌, List, ℕ, ◌-◌, eqb, ltb, min, get_or, Option, Some, None}
use Rattle.laws.specs.Sets.{found}
use Rattle.laws.specs.Entry.{FFFF}
use Rattle.model.specs.Plan.{Plan, active}
use Rattle.model.specs.Command.{choice}
use Rattle.tables.specs.declared.spans.Span.{Span}
use Rattle.tables.specs.Spans.{failing_span}
use Rattle.walks.specs.Flags.{walked_in}

-- an ordinary state with commands
unfoldable pub active_span : Span → Bool
active_span q = eqb q.kind 0 && ltb q.first q.end

-- before the first round: the failing states are known
unfoldable pub start_flag : Span → ℕ
start_flag q = cond (failing_span q) 0 1

-- the walk reached s, which has commands, and took none of them
unfoldable pub marked_at : Span → List ℕ → List ℕ → ℕ → Bool
marked_at q commands flags s = walked_in flags s && active_span q && eqb (get_or commands s 0) FFFF

-- x has commands and none of them is left: where a walk reaches x, it is marked
unfoldable pub none_left : Plan → (ℕ → Bool) → ℕ → Bool
none_left P K x = active P x && not (found (choice P K x))

-- the lower of `low` and the place that the flag of a marked state tells
unfoldable pub lower_of : Bool → ℕ → Option ℕ → Option ℕ
lower_of marked flag None = cond marked (Some (flag - 2)) None
lower_of marked flag (Some low) = Some (cond marked (min (flag - 2) low) low)
