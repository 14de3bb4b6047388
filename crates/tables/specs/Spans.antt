-- What the inner functions read of a state at once.
use Rattle.std.specs.Prelude.{Bool, ◌&&◌, List, ℕ, ◌+◌, ◌-◌, leb}
use Rattle.model.specs.Plan.{failing_at}
use Rattle.model.specs.Tables.{Row as ModelRow, Tables, Lists}
use Rattle.model.specs.File.{StateField, not_idle}
use Rattle.model.specs.Places.{no_row as noModelRow, row_at, first_command}
use Rattle.tables.specs.declared.Size.{Size}
use Rattle.tables.specs.declared.Row.{Row}
use Rattle.tables.specs.declared.spans.Span.{Span}
use Rattle.tables.specs.Meaning.{row_of}
use Rattle.tables.specs.Ready.{list_table}

-- the row that stands for one of the model's
abbrev pub as_row : ModelRow → Row
as_row w = record { kind = w.kind; first = w.first; practice = w.practice }

-- what stands for a row past the table
abbrev pub no_row : Row
no_row = as_row noModelRow

-- the outcomes of a plan's commands, a list for each
abbrev pub commands_of : Size → List ℕ → List ℕ → Lists
commands_of z firsts outcomes = list_table z.m z.t firsts outcomes

-- a row, and where the state's commands begin and end
abbrev pub span_for : ModelRow → ℕ → ℕ → Span
span_for w first end = record { kind = w.kind; first = first; end = end; practice = w.practice }

abbrev pub span_of : Row → ℕ → Span
span_of r end = span_for (row_of r) r.first end

-- what is read of a state at once
abbrev pub span_at : Tables → ℕ → Span
span_at T s = span_for (row_at T s) (first_command T s) (first_command T (s + 1))

-- a state counts as failing: proofs/SpanFacts.antt, `span_failing`, ties it to the plan's
unfoldable pub failing_span : Span → Bool
failing_span q = failing_at q.kind (q.end - q.first)

-- what a state field says of it
abbrev pub field_in : Span → StateField
field_in q = record { kind = q.kind; count = q.end - q.first; practice = q.practice }

abbrev pub field_with : ℕ → ℕ → ℕ → StateField
field_with kind count practice = record { kind = kind; count = count; practice = practice }

-- a state's row is sound, m being the number of commands
unfoldable pub span_sound : Span → ℕ → Bool
span_sound q m = leb q.first q.end && leb q.end m && leb q.kind 2 && not_idle (field_in q)
