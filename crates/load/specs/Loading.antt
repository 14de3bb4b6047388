-- A plan that is lent as bytes, and the part of it that tables of the limits' lengths hold.
use Rattle.std.specs.Prelude.{Bool, ◌&&◌, List, ℕ, leb, Result}
use Rattle.model.specs.Refusal.{Unsound, Answer, given, need, ◌>>=◌, ◌>>◌}
use Rattle.model.specs.File.{max_states, max_commands, max_outcomes}
use Rattle.model.specs.Tables.{Size as ModelSize, Tables}
use Rattle.model.specs.SoundTest.{tables_long}
use Rattle.model.specs.Boundary.{tables_in}
use Rattle.tables.specs.declared.Refusal.{Refusal}
use Rattle.tables.specs.declared.Size.{Size}
use Rattle.tables.specs.Meaning.{numbers, answered}

-- the size record, or the refusal
abbrev pub answer_of : Result Size Refusal → Answer ModelSize
answer_of = answered numbers

-- no count is above its limit
unfoldable pub few : ModelSize → Bool
few z = leb z.n max_states && leb z.m max_commands && leb z.t max_outcomes

-- the lent plan, where tables of the limits' lengths hold it
unfoldable pub loading : List ℕ → List ℕ → List ℕ → List ℕ → Answer Tables
loading size rows firsts outcomes = do
  T ← tables_in size rows firsts outcomes
  need Unsound (few T.size && tables_long T)
  given T
