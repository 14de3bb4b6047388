-- The calls for C (docs/SPECIFICATION.md, part G): numbers and byte slices.
use Rattle.std.specs.Prelude.{Bool, cond, List, [], ◌∷◌, ◌++◌, ℕ, ◌+◌, ◌*◌, ◌/◌, leb, eqb, length, get_or}
use Rattle.laws.specs.Lists.{tabulate, joined}
use Rattle.laws.specs.Entry.{be16, twos}
use Rattle.model.specs.Plan.{Plan}
use Rattle.model.specs.Practice.{tally}
use Rattle.model.specs.Search.{Result}
use Rattle.model.specs.Refusal.{Cramped, Unsound, Answer, given, refused, number, need, ◌>>=◌, ◌>>◌}
use Rattle.model.specs.Tables.{Size, Row, Tables}
use Rattle.model.specs.File.{entries}
use Rattle.model.specs.Calls.{left, reading, deciding, searching, rank_table, command_table, mark_table, result_table, cleared}

-- ---- how many bytes there are

-- in an entry, a row, of so many entries, and a size record
abbrev pub entry_bytes : ℕ
entry_bytes = 2

abbrev pub row_width : ℕ
row_width = 3

abbrev pub row_bytes : ℕ
row_bytes = row_width * entry_bytes

abbrev pub size_bytes : ℕ
size_bytes = 8

-- in a tally, and in the search's answer
abbrev pub tally_bytes : ℕ
tally_bytes = 12

abbrev pub answer_bytes : ℕ
answer_bytes = 4

-- ---- encodings

-- rules G2 and G3: the entries of a slice; a byte left over at its end is no entry
unfoldable pub entries_in : List ℕ → List ℕ
entries_in s = entries (length s / entry_bytes) s

-- the bytes of entries
abbrev pub bytes_for : List ℕ → List ℕ
bytes_for es = twos es []

-- rule G2: the row whose entries these are, by their places in it
abbrev pub row_from : (ℕ → ℕ) → Row
row_from entry = record { kind = entry 0; first = entry 1; practice = entry 2 }

-- and the entries of a row
abbrev pub entries_of : Row → List ℕ
entries_of w = w.kind ∷ w.first ∷ w.practice ∷ []

-- the rows that entries hold, one behind another; entries left over are no row
unfoldable pub rows_in : List ℕ → List Row
rows_in es = tabulate (λ s. row_from (λ i. get_or es (s * row_width + i) 0)) 0 (length es / row_width)

-- and the row of state s that bytes hold
abbrev pub row_in : List ℕ → ℕ → Row
row_in bytes s = row_from (λ i. be16 bytes ((s * row_width + i) * entry_bytes))

unfoldable pub row_entries : List Row → List ℕ
row_entries [] = []
row_entries (w ∷ ws) = entries_of w ++ row_entries ws

-- rule G5: a size record
unfoldable pub size_entries : Size → List ℕ
size_entries z = z.n ∷ z.m ∷ z.t ∷ z.start ∷ []

-- and the size record that bytes hold
abbrev pub size_in : List ℕ → Size
size_in s = record { n = be16 s 0; m = be16 s 2; t = be16 s 4; start = be16 s 6 }

-- rule G6: a tally
unfoldable pub tally_entries : Plan → List ℕ
tally_entries P = joined (tally P)

-- rule G7: what the search answers
unfoldable pub result_entries : Bool × ℕ → List ℕ
result_entries (lost, rounds) = cond lost 1 0 ∷ rounds ∷ []

-- and the verdict (true: lost) and the rounds that bytes hold
abbrev pub verdict_in : List ℕ → Bool
verdict_in s = eqb (be16 s 0) 1

abbrev pub rounds_in : List ℕ → ℕ
rounds_in s = be16 s 2

-- rule G4: what a call returns
unfoldable pub code : {A : Type 0} → Answer A → ℕ
code (given a) = 0
code (refused r) = number r

-- ---- the calls, on the slices lent in and the lengths in bytes of those written

-- the plan lent in; rule G9: it has a size record
unfoldable pub tables_in : List ℕ → List ℕ → List ℕ → List ℕ → Answer Tables
tables_in size rows firsts outcomes = do
  need Unsound (leb size_bytes (length size))
  given (record {
    size = size_in size;
    rows = rows_in (entries_in rows);
    firsts = entries_in firsts;
    outcomes = entries_in outcomes;
  })

-- rule G8: the library's call asks for room in the tables, so that only the size record, the tally and the search's answer are new here
unfoldable pub gate_read : List ℕ → ℕ → ℕ → ℕ → ℕ → Answer Tables
gate_read file size rows firsts outcomes = do
  T ← reading (rows / row_bytes) (firsts / entry_bytes) (outcomes / entry_bytes) file
  need Cramped (leb size_bytes size)
  given T

unfoldable pub gate_decide : Answer Tables → ℕ → ℕ → ℕ → ℕ → ℕ → Answer Plan
gate_decide lent ranks commands marks scratch tally = do
  T ← lent
  P ← deciding T (ranks / entry_bytes) (commands / entry_bytes) (marks / entry_bytes) (scratch / entry_bytes)
  need Cramped (leb tally_bytes tally)
  given P

-- with the count of states that the command table is to hold
unfoldable pub gate_search : Answer Tables → ℕ → ℕ → ℕ → ℕ → Answer (ℕ × Result)
gate_search lent start commands scratch answer = do
  T ← lent
  R ← searching T start (commands / entry_bytes) (scratch / entry_bytes)
  need Cramped (leb answer_bytes answer)
  given (T.size.n, R)

-- ---- what each call returns and what every slice lent to it holds afterwards, for all bytes lent

pub record AfterGateRead : Type 0 where
  pub returns : ℕ
  pub size : List ℕ
  pub rows : List ℕ
  pub firsts : List ℕ
  pub outcomes : List ℕ

abbrev pub gate_read_call : List ℕ → List ℕ → List ℕ → List ℕ → List ℕ → AfterGateRead
gate_read_call file size rows firsts outcomes =
    let a = gate_read file (length size) (length rows) (length firsts) (length outcomes) in
    record {
      returns = code a;
      size = left (λ T. bytes_for (size_entries T.size)) a size;
      rows = left (λ T. bytes_for (row_entries T.rows)) a rows;
      firsts = left (λ T. bytes_for T.firsts) a firsts;
      outcomes = left (λ T. bytes_for T.outcomes) a outcomes;
    }

pub record AfterGateDecide : Type 0 where
  pub returns : ℕ
  pub ranks : List ℕ
  pub commands : List ℕ
  pub marks : List ℕ
  pub scratch : List ℕ
  pub tally : List ℕ

-- the plan lent in is `tables_in` of its slices
abbrev pub gate_decide_call : Answer Tables → List ℕ → List ℕ → List ℕ → List ℕ → List ℕ → AfterGateDecide
gate_decide_call lent ranks commands marks scratch tally =
    let a = gate_decide lent (length ranks) (length commands) (length marks) (length scratch) (length tally) in
    record {
      returns = code a;
      ranks = left (λ P. bytes_for (rank_table P)) a ranks;
      commands = left (λ P. bytes_for (command_table P)) a commands;
      marks = left (λ P. bytes_for (mark_table P)) a marks;
      scratch = left (λ P. bytes_for (cleared P.states)) a scratch;
      tally = left (λ P. bytes_for (tally_entries P)) a tally;
    }

pub record AfterGateSearch : Type 0 where
  pub returns : ℕ
  pub commands : List ℕ
  pub scratch : List ℕ
  pub answer : List ℕ

abbrev pub gate_search_call : Answer Tables → ℕ → List ℕ → List ℕ → List ℕ → AfterGateSearch
gate_search_call lent start commands scratch answer =
    let a = gate_search lent start (length commands) (length scratch) (length answer) in
    record {
      returns = code a;
      commands = left (λ x. bytes_for (result_table x.0 x.1)) a commands;
      scratch = left (λ x. bytes_for (cleared x.0)) a scratch;
      answer = left (λ x. bytes_for (result_entries (x.1.lost, x.1.rounds))) a answer;
    }
