-- The new number of each state that is kept, and its row.
use Rattle.std.specs.Prelude.{List, ℕ, length}
use Rattle.laws.specs.Placed.{Placed}
use Rattle.tables.specs.declared.Row.{Row}

-- l is l₀ with its new number at the place of each of the states that are kept
abbrev pub Numbered : List ℕ → List ℕ → List ℕ → Type 0
Numbered kept l₀ l = Placed (length kept) kept (λ i. i) l₀ l

-- a row with another first command
abbrev pub row_after : Row → ℕ → Row
row_after row m = record { kind = row.kind; first = m; practice = row.practice }
