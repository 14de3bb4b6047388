-- What the answers of the two functions stand for, with what the lent tables hold.
use Rattle.std.specs.Prelude.{List, ℕ, Result}
use Rattle.tables.specs.declared.Row.{Row}
use Rattle.tables.specs.declared.Size.{Size}
use Rattle.tables.specs.declared.Refusal.{Refusal}
use Rattle.tables.specs.Meaning.{rows_of}
use Rattle.reading.specs.Answers as R
use Rattle.writing.specs.Answers as W
use Rattle.format.specs.Trips.{AfterReadWrite, AfterWriteRead}

abbrev pub after_read_write : Result ℕ Refusal → List Row → List ℕ → List ℕ → List ℕ → AfterReadWrite
after_read_write r rows firsts outcomes bytes = record {
  answers = W.answer_of r;
  rows = rows_of rows;
  firsts = firsts;
  outcomes = outcomes;
  bytes = bytes;
}

abbrev pub after_write_read : Result Size Refusal → List ℕ → List Row → List ℕ → List ℕ → AfterWriteRead
after_write_read r bytes rows firsts outcomes = record {
  answers = R.answer_of r;
  bytes = bytes;
  rows = rows_of rows;
  firsts = firsts;
  outcomes = outcomes;
}
