-- What the code's types stand for: the model's size record, refusals and tables.
use Rattle.std.specs.Prelude.{List, map, ℕ, Option, Some, None, Result, Ok, Err}
use Rattle.std.proofs.Math.Option.{Option as ModelOption, some, none}
use Rattle.model.specs.Refusal.{Refusal as ModelRefusal, Answer, given, refused}
use Rattle.model.specs.Tables.{Size as ModelSize, Row as ModelRow, Tables}
use Rattle.tables.specs.declared.Size.{Size}
use Rattle.tables.specs.declared.Row.{Row}
use Rattle.tables.specs.declared.Plan.{Plan}
use Rattle.tables.specs.declared.Refusal.{Refusal}
use Rattle.tables.specs.declared.Refusal.TheVariants.{
  Cut,
  Surplus,
  Tag,
  Length,
  Beyond,
  Unsorted,
  Idle,
  Limit,
  Cramped,
  Unsound,
  Stranger,
  Moves,
  Seconds,
  Doubtful,
  Departures,
  Chambers,
  Report,
  Grant,
}

abbrev pub sized : ℕ → ℕ → ℕ → ℕ → Size
sized n m t start = record { n = n; m = m; t = t; start = start }

abbrev pub numbers : Size → ModelSize
numbers z = record { n = z.n; m = z.m; t = z.t; start = z.start }

abbrev pub refusal_of : Refusal → ModelRefusal
refusal_of Cut = ModelRefusal.Cut
refusal_of Surplus = ModelRefusal.Surplus
refusal_of Tag = ModelRefusal.Tag
refusal_of Length = ModelRefusal.Length
refusal_of Beyond = ModelRefusal.Beyond
refusal_of Unsorted = ModelRefusal.Unsorted
refusal_of Idle = ModelRefusal.Idle
refusal_of Limit = ModelRefusal.Limit
refusal_of Cramped = ModelRefusal.Cramped
refusal_of Unsound = ModelRefusal.Unsound
refusal_of Stranger = ModelRefusal.Stranger
refusal_of Moves = ModelRefusal.Moves
refusal_of Seconds = ModelRefusal.Seconds
refusal_of Doubtful = ModelRefusal.Doubtful
refusal_of Departures = ModelRefusal.Departures
refusal_of Chambers = ModelRefusal.Chambers
refusal_of Report = ModelRefusal.Report
refusal_of Grant = ModelRefusal.Grant

abbrev pub row_of : Row → ModelRow
row_of r = record { kind = r.kind; first = r.first; practice = r.practice }

-- the rows of a lent table
abbrev pub rows_of : List Row → List ModelRow
rows_of rows = map row_of rows

-- size record and lent slices as the model's tables
abbrev pub held : Size → List Row → List ℕ → List ℕ → Tables
held z rows firsts outcomes = record { size = numbers z; rows = rows_of rows; firsts = firsts; outcomes = outcomes }

abbrev pub lent : Plan → Tables
lent p = held p.size p.rows.now p.firsts.now p.outcomes.now

-- what a call answers: a value, which f says what it stands for, or a refusal
abbrev pub answered : {A B : Type 0} → (A → B) → Result A Refusal → Answer B
answered f (Ok a) = given (f a)
answered f (Err r) = refused (refusal_of r)

-- a value or none, in the model's words
abbrev pub option_of : {A : Type 0} → Option A → ModelOption A
option_of None = none
option_of (Some a) = some a
