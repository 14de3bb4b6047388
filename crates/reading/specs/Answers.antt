-- What the answer of a reading stands for.
use Rattle.std.specs.Prelude.{List, ℕ, Result}
use Rattle.model.specs.Refusal.{Answer}
use Rattle.model.specs.Tables.{Size as ModelSize}
use Rattle.model.specs.Calls.{AfterRead}
use Rattle.tables.specs.declared.Row.{Row}
use Rattle.tables.specs.declared.Size.{Size}
use Rattle.tables.specs.declared.Refusal.{Refusal}
use Rattle.tables.specs.Meaning.{answered, numbers, rows_of}

abbrev pub answer_of : Result Size Refusal → Answer ModelSize
answer_of = answered numbers

-- what is answered, and what the lent tables hold then
abbrev pub after_read : Result Size Refusal → List Row → List ℕ → List ℕ → AfterRead
after_read r rows firsts outcomes = record { answers = answer_of r; rows = rows_of rows; firsts = firsts; outcomes = outcomes }
