-- What a mark in a file stands for, and what the functions that walk over fields answer.
use Rattle.std.specs.Prelude.{◌≡◌, List, [], ℕ, ◌+◌, ◌*◌, ◌≤◌, length, drop, Result, IfOk}
use Rattle.laws.specs.Lists.{joined}
use Rattle.model.specs.Refusal.{Answer}
use Rattle.model.specs.File.{State, Tree, max_commands, max_outcomes}
use Rattle.model.specs.Tables.{all_commands, tables_of}
use Rattle.tables.specs.declared.Refusal.{Refusal}
use Rattle.tables.specs.Meaning.{answered}
use Rattle.reading.specs.declared.bytes.Mark.{Mark}

abbrev pub moved : Mark → ℕ → Mark
moved k bytes = record { at = k.at + bytes; m = k.m; t = k.t }

-- the bytes from a mark on
abbrev pub bytes_from : List ℕ → Mark → List ℕ
bytes_from file k = drop k.at file

-- what a mark stands for: the commands and the outcomes so far, and the bytes from it on
abbrev pub passed_of : List ℕ → Result Mark Refusal → Answer (ℕ × ℕ × List ℕ)
passed_of file = answered (λ k. (k.m, k.t, bytes_from file k))

-- the mark is in the file, and keeps the limits
pub record Within (file : List ℕ) (k : Mark) : Type 0 where
  pub inside : k.at ≤ length file
  pub few_commands : k.m ≤ max_commands
  pub few_outcomes : k.t ≤ max_outcomes

-- what a function that walks over fields answers: a mark that is answered is within
pub record Walks (file : List ℕ) (r : Result Mark Refusal) (x : Answer (ℕ × ℕ × List ℕ)) : Type 0 where
  pub answers : passed_of file r ≡ x
  pub stays : IfOk r (Within file)

-- where the head begins
abbrev pub head_mark : Mark
head_mark = record { at = 0; m = 0; t = 0 }

-- What is past what was read, as a mark has it: past a field with a value of some length, past a command, commands, states and the file.
abbrev pub after_field : List ℕ → Mark → ℕ → ℕ × ℕ × List ℕ
after_field file k len = (k.m, k.t, drop (3 + len) (bytes_from file k))

abbrev pub after_command : List ℕ → Mark → List ℕ → ℕ × ℕ × List ℕ
after_command file k os = (k.m + 1, k.t + length os, drop (3 + length os * 2) (bytes_from file k))

abbrev pub after_commands : ℕ → List (List ℕ) × ℕ × List ℕ → ℕ × ℕ × List ℕ
after_commands m x = (m + length x.0, x.1, x.2)

abbrev pub after_states : ℕ → ℕ → List State × List ℕ → ℕ × ℕ × List ℕ
after_states m t x = (m + length (all_commands x.0), t + length (joined (all_commands x.0)), x.1)

abbrev pub after_file : Tree → ℕ × ℕ × List ℕ
after_file p = ((tables_of p).size.m, (tables_of p).size.t, [])
