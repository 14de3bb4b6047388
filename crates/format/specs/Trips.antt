-- Both calls of the file format, one after the other: what is answered, and what every lent table holds then, for every input.
use Rattle.std.specs.Prelude.{List, ℕ, take}
use Rattle.model.specs.Refusal.{Answer, given, refused}
use Rattle.model.specs.Tables.{Size, Row, Tables}
use Rattle.model.specs.Calls.{AfterRead, AfterWrite, read_call, write_call}

-- the tables that reading left, with the size record that it answered
abbrev pub tables_left : Size → AfterRead → Tables
tables_left z r = record { size = z; rows = r.rows; firsts = r.firsts; outcomes = r.outcomes }

-- what was read is written; where reading refused, that is the refusal, and no byte is
unfoldable pub then_write : AfterRead → Answer Size → List ℕ → AfterWrite
then_write r (given z) bytes = write_call (tables_left z r) bytes
then_write r (refused x) bytes = record { answers = refused x; bytes = bytes }

-- the bytes written are read; where writing refused, that is the refusal, and the tables are as they were
unfoldable pub then_read : AfterWrite → Answer ℕ → List Row → List ℕ → List ℕ → AfterRead
then_read w (given k) rows firsts outcomes = read_call (take k w.bytes) rows firsts outcomes
then_read w (refused x) rows firsts outcomes = record { answers = refused x; rows = rows; firsts = firsts; outcomes = outcomes }

pub record AfterReadWrite : Type 0 where
  pub answers : Answer ℕ
  pub rows : List Row
  pub firsts : List ℕ
  pub outcomes : List ℕ
  pub bytes : List ℕ

abbrev pub read_write_call : List ℕ → List Row → List ℕ → List ℕ → List ℕ → AfterReadWrite
read_write_call file rows firsts outcomes bytes =
    let r = read_call file rows firsts outcomes in
    let w = then_write r r.answers bytes in
    record { answers = w.answers; rows = r.rows; firsts = r.firsts; outcomes = r.outcomes; bytes = w.bytes }

pub record AfterWriteRead : Type 0 where
  pub answers : Answer Size
  pub bytes : List ℕ
  pub rows : List Row
  pub firsts : List ℕ
  pub outcomes : List ℕ

abbrev pub write_read_call : Tables → List ℕ → List Row → List ℕ → List ℕ → AfterWriteRead
write_read_call T bytes rows firsts outcomes =
    let w = write_call T bytes in
    let r = then_read w w.answers rows firsts outcomes in
    record { answers = r.answers; bytes = w.bytes; rows = r.rows; firsts = r.firsts; outcomes = r.outcomes }
