-- The trying order by its places, and a plan of one state, made of what was read of it.
use Rattle.std.specs.Prelude.{◌≡◌, Bool, true, Option, ℕ, ◌+◌, ◌-◌, ◌<◌, ◌≤◌, length, get_or, slice_get}
use Rattle.laws.specs.Entry.{FFFF}
use Rattle.model.specs.Plan.{Plan}
use Rattle.model.specs.Verdict.{hits}
use Rattle.model.specs.Command.{try_order}
use Rattle.model.specs.Tables.{Lists}
use Rattle.model.specs.Places.{list_at}
use Rattle.tables.specs.declared.spans.Span.{Span}

-- what was read of a state, as the only state of a plan; L has the outcomes
abbrev pub alone : Lists → Span → Plan
alone L q = record {
  states = 1;
  start = 0;
  kind = λ _. q.kind;
  commands = λ _. q.end - q.first;
  outcomes = λ _ c. list_at L (q.first + c);
  practice = λ _. q.practice;
}

-- how many places the trying order has
unfoldable pub places : Plan → ℕ → ℕ
places P s = length (try_order P s)

-- the command at place i of it, if it has so many
unfoldable pub tried_at : Plan → ℕ → ℕ → Option ℕ
tried_at P s i = slice_get (try_order P s) i

-- as a number, FFFF past the last
unfoldable pub command_at : Plan → ℕ → ℕ → ℕ
command_at P s i = get_or (try_order P s) i FFFF

-- the command at place i has an outcome in K
unfoldable pub hit_at : Plan → (ℕ → Bool) → ℕ → ℕ → Bool
hit_at P K s i = hits P K s (command_at P s i)

-- the order has k places, and the command at each of the first k has an outcome in K
pub record AllHit (P : Plan) (K : ℕ → Bool) (s k : ℕ) : Type 0 where
  pub part : k ≤ places P s
  pub hit : (i : ℕ) → i < k → hit_at P K s i ≡ true
