-- What each call answers, and what it leaves in the tables it is lent (docs/SPECIFICATION.md, parts E and C).
use Rattle.std.specs.Prelude.{Bool, ◌&&◌, List, ℕ, leb, ltb, length, replicate}
use Rattle.laws.specs.Lists.{tabulate, overwrite}
use Rattle.laws.specs.Entry.{entry}
use Rattle.model.specs.Plan.{Plan}
use Rattle.model.specs.Verdict.{rank}
use Rattle.model.specs.Command.{chosen}
use Rattle.model.specs.Practice.{mark, tally}
use Rattle.model.specs.Search.{Result, search}
use Rattle.model.specs.Refusal.{Cramped, Unsound, Stranger, Answer, given, refused, answer, need, ◌>>=◌, ◌>>◌}
use Rattle.model.specs.File.{read}
use Rattle.model.specs.Bytes.{bytes_of}
use Rattle.model.specs.Tables.{Size, Row, Tables, enough, tables_of, file_length}
use Rattle.model.specs.SoundTest.{sound}
use Rattle.model.specs.Held.{tree_of, plan_in}

-- rules C7 and E20: what a lent table holds after a call, where f gives what an answer writes to its first places
unfoldable pub left : {A B : Type 0} → (A → List B) → Answer A → List B → List B
left f (given a) table = overwrite (f a) table
left f (refused r) table = table

-- rules C1 and E16: room is asked for when the file has been read to its end.
-- Given are the tables that are filled; `read_call` has what is answered.
unfoldable pub reading : ℕ → ℕ → ℕ → List ℕ → Answer Tables
reading rows firsts outcomes file = do
  p ← read file
  need Cramped (enough (tables_of p).size rows firsts outcomes)
  given (tables_of p)

-- rules C2 and E17: the plan is sound, then there is room.
-- Given are the file's bytes; `write_call` has what is answered.
unfoldable pub writing : Tables → ℕ → Answer (List ℕ)
writing T bytes = do
  need Unsound (sound T)
  need Cramped (leb (file_length T) bytes)
  given (bytes_of (tree_of T))

-- rules C3 and E17: the plan is sound, then there is room.
-- Given is the plan that is decided; `decide_call` has what is answered.
unfoldable pub deciding : Tables → ℕ → ℕ → ℕ → ℕ → Answer Plan
deciding T ranks commands marks scratch = do
  need Unsound (sound T)
  need Cramped (leb T.size.n ranks && leb T.size.n commands && leb T.size.n marks && leb T.size.n scratch)
  given (plan_in T)

-- rules C5 and E17: the plan is sound, then it has the start, then there is room.
-- Given is all that the search finds; `search_call` has what is answered.
unfoldable pub searching : Tables → ℕ → ℕ → ℕ → Answer Result
searching T start commands scratch = do
  need Unsound (sound T)
  need Stranger (ltb start T.size.n)
  need Cramped (leb T.size.n commands && leb T.size.n scratch)
  given (search (plan_in T) start)

-- rule C4: the tables that deciding writes
unfoldable pub rank_table : Plan → List ℕ
rank_table P = tabulate (λ s. entry (rank P s)) 0 P.states

unfoldable pub command_table : Plan → List ℕ
command_table P = tabulate (λ s. entry (chosen P s)) 0 P.states

unfoldable pub mark_table : Plan → List ℕ
mark_table P = tabulate (mark P) 0 P.states

-- rule S11: the search's command table, of n places
unfoldable pub result_table : ℕ → Result → List ℕ
result_table n R = tabulate (λ s. entry (R.command s)) 0 n

-- rule C7: scratch after an answer
unfoldable pub cleared : ℕ → List ℕ
cleared n = replicate n 0

-- ---- what each call answers and what every table lent to it holds afterwards, for every input

pub record AfterRead : Type 0 where
  pub answers : Answer Size
  pub rows : List Row
  pub firsts : List ℕ
  pub outcomes : List ℕ

-- rule C1: answered is the size record
abbrev pub read_call : List ℕ → List Row → List ℕ → List ℕ → AfterRead
read_call file rows firsts outcomes =
    let a = reading (length rows) (length firsts) (length outcomes) file in
    record {
      answers = answer (λ T. T.size) a;
      rows = left (λ T. T.rows) a rows;
      firsts = left (λ T. T.firsts) a firsts;
      outcomes = left (λ T. T.outcomes) a outcomes;
    }

-- a size record, and the tables as a reading of the file leaves them
abbrev pub after_reading : Size → List ℕ → List Row → List ℕ → List ℕ → Tables
after_reading z file rows firsts outcomes =
    let after = read_call file rows firsts outcomes in
    record { size = z; rows = after.rows; firsts = after.firsts; outcomes = after.outcomes }

pub record AfterWrite : Type 0 where
  pub answers : Answer ℕ
  pub bytes : List ℕ

-- rule C2: answered is how many bytes the file has
abbrev pub write_call : Tables → List ℕ → AfterWrite
write_call T bytes =
    let a = writing T (length bytes) in
    record { answers = answer length a; bytes = left (λ file. file) a bytes }

pub record AfterDecide : Type 0 where
  pub answers : Answer (List (List ℕ))
  pub ranks : List ℕ
  pub commands : List ℕ
  pub marks : List ℕ
  pub scratch : List ℕ

-- rule C3: answered is the tally
abbrev pub decide_call : Tables → List ℕ → List ℕ → List ℕ → List ℕ → AfterDecide
decide_call T ranks commands marks scratch =
    let a = deciding T (length ranks) (length commands) (length marks) (length scratch) in
    record {
      answers = answer tally a;
      ranks = left rank_table a ranks;
      commands = left command_table a commands;
      marks = left mark_table a marks;
      scratch = left (λ P. cleared P.states) a scratch;
    }

pub record AfterSearch : Type 0 where
  pub answers : Answer (Bool × ℕ)
  pub commands : List ℕ
  pub scratch : List ℕ

-- rule C5: answered are the verdict and the rounds
abbrev pub search_call : Tables → ℕ → List ℕ → List ℕ → AfterSearch
search_call T start commands scratch =
    let a = searching T start (length commands) (length scratch) in
    record {
      answers = answer (λ R. (R.lost, R.rounds)) a;
      commands = left (result_table T.size.n) a commands;
      scratch = left (λ R. cleared T.size.n) a scratch;
    }
