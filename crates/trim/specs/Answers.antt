-- What the answer of a trimming stands for.
use Rattle.std.specs.Prelude.{List, ℕ, Result}
use Rattle.model.specs.Refusal.{Answer}
use Rattle.model.specs.Tables.{Size as ModelSize, Tables}
use Rattle.model.specs.Trim.{AfterTrim}
use Rattle.tables.specs.declared.Size.{Size}
use Rattle.tables.specs.declared.Row.{Row}
use Rattle.tables.specs.declared.Refusal.{Refusal}
use Rattle.tables.specs.Meaning.{answered, numbers, rows_of}

abbrev pub answer_of : Result Size Refusal → Answer ModelSize
answer_of = answered numbers

-- what is answered, and what the lent tables hold then
abbrev pub after_trim : Result Size Refusal → List Row → List ℕ → List ℕ → List ℕ → List ℕ → AfterTrim
after_trim r rows firsts outcomes olds scratch =
    record { answers = answer_of r; rows = rows_of rows; firsts = firsts; outcomes = outcomes; olds = olds; scratch = scratch }

-- a size record, and the tables that are left
abbrev pub leaves : ModelSize → List Row → List ℕ → List ℕ → Tables
leaves z rows firsts outcomes = record { size = z; rows = rows_of rows; firsts = firsts; outcomes = outcomes }
