-- Trimming, computed on small plans: what is answered, and every lent table afterwards.
use mathlib.Core.Path.{◌≡◌, refl}
use mathlib.Core.List.{[], ◌∷◌}
use Prim.Native.Nat.{ℕ}
use lib.ListN.{replicate}
use Rattle.laws.specs.Sets.{any, every, exists, how_many, grow}
use Rattle.laws.specs.Passing.{passing}
use Rattle.laws.specs.Lists.{tabulate, joined, overwrite}
use Rattle.laws.specs.Entry.{FFFF}
use Rattle.laws.specs.Starts.{start_of}
use Rattle.model.specs.Plan.{ordinary}
use Rattle.model.specs.Refusal.{Cramped, Unsound, given, refused, answer, need, ◌>>◌}
use Rattle.model.specs.Tables.{Size, Row, Tables, all_commands, rows_from, firsts_from, tables_of}
use Rattle.model.specs.Places.{row_at, first_command, command_count, list_at}
use Rattle.model.specs.SoundTest.{size_sound, tables_long, row_sound, rises_at, list_sound, entry_sound, lists_sound, sound}
use Rattle.model.specs.Held.{state_at, tree_of, state_of, plan_of}
use Rattle.model.specs.Calls.{left, cleared}
use Rattle.model.specs.Trim.{enters_from, entered, map_of, new_number, trim_state, trim_tree, trimming, AfterTrim, trim_call}
use Rattle.model.proofs.CasePlans.{resting_at}

abbrev row : ℕ → ℕ → ℕ → Row
row kind first practice = record { kind = kind; first = first; practice = practice }

abbrev sized : ℕ → ℕ → ℕ → ℕ → Size
sized n m t start = record { n = n; m = m; t = t; start = start }

-- the call, lent tables of so many places that are all 7
abbrev lent : Tables → ℕ → ℕ → ℕ → ℕ → ℕ → AfterTrim
lent T rows firsts outcomes olds scratch =
    trim_call T (replicate rows (row 7 7 7)) (replicate firsts 7) (replicate outcomes 7) (replicate olds 7) (replicate scratch 7)

-- The start is 3 with {1} and {1, 3}, and 1 has {3} and the practice 0. Not entered are 0 with {1, 4} and {5}, 2 stuck, 4 failing, 5 rest.
abbrev gaps : Tables
gaps = record {
  size = sized 6 5 7 3;
  rows = row 0 0 0 ∷ row 0 2 0 ∷ row 0 3 FFFF ∷ row 0 3 FFFF ∷ row 1 5 FFFF ∷ row 2 5 FFFF ∷ [];
  firsts = 0 ∷ 2 ∷ 3 ∷ 4 ∷ 5 ∷ [];
  outcomes = 1 ∷ 4 ∷ 5 ∷ 3 ∷ 1 ∷ 1 ∷ 3 ∷ [];
}

-- a place to spare in every table, which stays as it was
trim_gaps : lent gaps 3 4 5 3 7
    ≡ record {
      answers = given (sized 2 3 4 1);
      rows = row 0 0 0 ∷ row 0 1 FFFF ∷ row 7 7 7 ∷ [];
      firsts = 0 ∷ 1 ∷ 2 ∷ 7 ∷ [];
      outcomes = 1 ∷ 0 ∷ 0 ∷ 1 ∷ 7 ∷ [];
      olds = 1 ∷ 3 ∷ 7 ∷ [];
      scratch = 0 ∷ 0 ∷ 0 ∷ 0 ∷ 0 ∷ 0 ∷ 7 ∷ [];
    }
unfolding any every exists how_many passing grow tabulate joined overwrite start_of ordinary answer need ◌>>◌ all_commands rows_from firsts_from
    tables_of row_at first_command command_count list_at size_sound tables_long row_sound rises_at list_sound entry_sound lists_sound sound state_at
    tree_of state_of plan_of left cleared enters_from entered map_of new_number trim_state trim_tree trimming
trim_gaps = refl

-- none to spare
trim_exact : lent gaps 2 3 4 2 6
    ≡ record {
      answers = given (sized 2 3 4 1);
      rows = row 0 0 0 ∷ row 0 1 FFFF ∷ [];
      firsts = 0 ∷ 1 ∷ 2 ∷ [];
      outcomes = 1 ∷ 0 ∷ 0 ∷ 1 ∷ [];
      olds = 1 ∷ 3 ∷ [];
      scratch = replicate 6 0;
    }
unfolding any every exists how_many passing grow tabulate joined overwrite start_of ordinary answer need ◌>>◌ all_commands rows_from firsts_from
    tables_of row_at first_command command_count list_at size_sound tables_long row_sound rises_at list_sound entry_sound lists_sound sound state_at
    tree_of state_of plan_of left cleared enters_from entered map_of new_number trim_state trim_tree trimming
trim_exact = refl

-- one place too few in each of the tables, and then scratch with a place for each kept state
trim_cramped : trimming gaps 1 3 4 2 6 ∷ trimming gaps 2 2 4 2 6 ∷ trimming gaps 2 3 3 2 6 ∷ trimming gaps 2 3 4 1 6
    ∷ trimming gaps 2 3 4 2 5 ∷ trimming gaps 2 3 4 2 2 ∷ []
    ≡ replicate 6 (refused Cramped)
unfolding any every exists how_many passing grow tabulate joined start_of ordinary need ◌>>◌ all_commands tables_of row_at first_command
    command_count list_at size_sound tables_long row_sound rises_at list_sound entry_sound lists_sound sound state_at tree_of state_of plan_of enters_from
    entered map_of new_number trim_state trim_tree trimming
trim_cramped = refl

-- what is refused leaves every table as it was
trim_unwritten : lent gaps 3 4 5 3 5
    ≡ record {
      answers = refused Cramped;
      rows = replicate 3 (row 7 7 7);
      firsts = replicate 4 7;
      outcomes = replicate 5 7;
      olds = replicate 3 7;
      scratch = replicate 5 7;
    }
unfolding any every exists how_many passing grow tabulate joined start_of ordinary answer need ◌>>◌ all_commands tables_of row_at first_command
    command_count list_at size_sound tables_long row_sound rises_at list_sound entry_sound lists_sound sound state_at tree_of state_of plan_of left
    enters_from entered map_of new_number trim_state trim_tree trimming
trim_unwritten = refl

-- a start that is no state, and no place: unsound before cramped
trim_unsound : trimming (resting_at 1) 0 0 0 0 0 ∷ trimming (resting_at 0) 0 0 0 0 0 ∷ [] ≡ refused Unsound ∷ refused Cramped ∷ []
unfolding any every exists how_many passing grow tabulate joined start_of ordinary need ◌>>◌ all_commands tables_of row_at first_command
    command_count list_at size_sound tables_long row_sound rises_at list_sound entry_sound lists_sound sound state_at tree_of state_of plan_of enters_from
    entered map_of new_number trim_state trim_tree trimming
trim_unsound = refl

-- 0 has {0, 1}, and 1, which is the start, has no commands
abbrev ends_at : ℕ → Tables
ends_at kind = record {
  size = sized 2 1 2 1;
  rows = row 0 0 FFFF ∷ row kind 1 FFFF ∷ [];
  firsts = 0 ∷ [];
  outcomes = 0 ∷ 1 ∷ [];
}

abbrev only : ℕ → AfterTrim
only kind = record {
  answers = given (sized 1 0 0 0);
  rows = row kind 0 FFFF ∷ [];
  firsts = [];
  outcomes = [];
  olds = 1 ∷ [];
  scratch = 0 ∷ 0 ∷ [];
}

-- a start that is stuck, failing or at rest is kept alone
trim_ended : lent (ends_at 0) 1 0 0 1 2 ∷ lent (ends_at 1) 1 0 0 1 2 ∷ lent (ends_at 2) 1 0 0 1 2 ∷ [] ≡ only 0 ∷ only 1 ∷ only 2 ∷ []
unfolding any every exists how_many passing grow tabulate joined overwrite start_of ordinary answer need ◌>>◌ all_commands rows_from firsts_from
    tables_of row_at first_command command_count list_at size_sound tables_long row_sound rises_at list_sound entry_sound lists_sound sound state_at
    tree_of state_of plan_of left cleared enters_from entered map_of new_number trim_state trim_tree trimming
trim_ended = refl

-- 2 has {3}, 3 has {0}, 0 has {1} and 1 is failing: from 2, every state is entered, the last after three moves
abbrev whole : Tables
whole = record {
  size = sized 4 3 3 2;
  rows = row 0 0 0 ∷ row 1 1 FFFF ∷ row 0 1 FFFF ∷ row 0 2 0 ∷ [];
  firsts = 0 ∷ 1 ∷ 2 ∷ [];
  outcomes = 1 ∷ 3 ∷ 0 ∷ [];
}

trim_whole : lent whole 4 3 3 4 4
    ≡ record {
      answers = given whole.size;
      rows = whole.rows;
      firsts = whole.firsts;
      outcomes = whole.outcomes;
      olds = 0 ∷ 1 ∷ 2 ∷ 3 ∷ [];
      scratch = replicate 4 0;
    }
unfolding any every exists how_many passing grow tabulate joined overwrite start_of ordinary answer need ◌>>◌ all_commands rows_from firsts_from
    tables_of row_at first_command command_count list_at size_sound tables_long row_sound rises_at list_sound entry_sound lists_sound sound state_at
    tree_of state_of plan_of left cleared enters_from entered map_of new_number trim_state trim_tree trimming
trim_whole = refl
