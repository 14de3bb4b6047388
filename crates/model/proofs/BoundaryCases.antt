-- The three calls of the C program, byte by byte. Case A: what each returns, and what it leaves in slices that are one byte too long.
-- Then a lost start, slices one byte short, and the order of the refusals.
use mathlib.Core.Path.{◌≡◌, refl}
use mathlib.Core.List.{List, [], ◌∷◌, ◌++◌}
use Prim.Native.Nat.{ℕ}
use lib.ListN.{length, replicate}
use Rattle.laws.specs.Sets.{any, first, lesser, least, every, exists, or_else, lowest, found, how_many, grow}
use Rattle.laws.specs.Lists.{tabulate, joined, overwrite}
use Rattle.laws.specs.Entry.{entry, twos}
use Rattle.laws.specs.Starts.{start_of}
use Rattle.model.specs.Plan.{ordinary, failing, active, resting, has_practice}
use Rattle.model.specs.Verdict.{hit, hits, forced, rank, lost, safe}
use Rattle.model.specs.Command.{try_order, choice, chosen}
use Rattle.model.specs.Practice.{practice_hit, practice_hits, practice_fails, fault_outcome, fault, mark, tally_row, tally}
use Rattle.model.specs.Search.{lands, next, marked, without_marks, ends, before, at_once, in_rounds, search}
use Rattle.model.specs.Refusal.{Answer, answer, ◌>>=◌, need, ◌>>◌}
use Rattle.model.specs.File.{field, head, state, entries, rising, command, commands, states, read}
use Rattle.model.specs.Tables.{Tables, all_commands, rows_from, firsts_from, tables_of}
use Rattle.model.specs.Places.{row_at, first_command, command_count, list_at}
use Rattle.model.specs.SoundTest.{size_sound, tables_long, row_sound, rises_at, list_sound, entry_sound, lists_sound, sound}
use Rattle.model.specs.Held.{state_at, tree_of, state_of, plan_of, plan_in}
use Rattle.model.specs.Calls.{left, reading, deciding, searching, rank_table, command_table, mark_table, result_table, cleared}
use Rattle.model.specs.Boundary.{
  entries_in,
  rows_in,
  row_entries,
  size_entries,
  tally_entries,
  result_entries,
  code,
  tables_in,
  gate_read,
  gate_decide,
  gate_search,
  gate_read_call,
  gate_decide_call,
  gate_search_call,
}
use Rattle.model.specs.Bench.{case_a, one_rest}

-- bytes lent to be written
abbrev lent : ℕ → List ℕ
lent k = replicate k 7

abbrev size : List ℕ
size = 0 ∷ 6 ∷ 0 ∷ 6 ∷ 0 ∷ 9 ∷ 0 ∷ 0 ∷ []

abbrev rows : List ℕ
rows = 0 ∷ 0 ∷ 0 ∷ 0 ∷ 0 ∷ 1 ∷ 0 ∷ 0 ∷ 0 ∷ 2 ∷ 0 ∷ 0 ∷ 0 ∷ 2 ∷ 0 ∷ 3 ∷ 255 ∷ 255 ∷ 0 ∷ 0 ∷ 0 ∷ 3 ∷ 0 ∷ 0 ∷ 0 ∷ 1 ∷ 0 ∷ 5 ∷ 255 ∷ 255 ∷ 0 ∷ 0
    ∷ 0 ∷ 5 ∷ 255 ∷ 255 ∷ []

abbrev firsts : List ℕ
firsts = 0 ∷ 0 ∷ 0 ∷ 1 ∷ 0 ∷ 3 ∷ 0 ∷ 5 ∷ 0 ∷ 6 ∷ 0 ∷ 8 ∷ []

abbrev outcomes : List ℕ
outcomes = 0 ∷ 1 ∷ 0 ∷ 2 ∷ 0 ∷ 3 ∷ 0 ∷ 0 ∷ 0 ∷ 1 ∷ 0 ∷ 4 ∷ 0 ∷ 2 ∷ 0 ∷ 4 ∷ 0 ∷ 3 ∷ []

case_a_read : gate_read_call case_a (lent 9) (lent 37) (lent 13) (lent 19)
    ≡ record { returns = 0; size = size ++ lent 1; rows = rows ++ lent 1; firsts = firsts ++ lent 1; outcomes = outcomes ++ lent 1 }
unfolding code gate_read reading left overwrite ◌>>=◌ need ◌>>◌ read head field states state commands command rising entries all_commands
    rows_from firsts_from tables_of joined row_entries size_entries twos
case_a_read = refl

case_a_decide : gate_decide_call (tables_in size rows firsts outcomes) (lent 13) (lent 13) (lent 13) (lent 13) (lent 13)
    ≡ record {
      returns = 0;
      ranks = (255 ∷ 255 ∷ 255 ∷ 255 ∷ 255 ∷ 255 ∷ 0 ∷ 1 ∷ 0 ∷ 0 ∷ 0 ∷ 2 ∷ []) ++ lent 1;
      commands = (0 ∷ 0 ∷ 0 ∷ 0 ∷ 255 ∷ 255 ∷ 255 ∷ 255 ∷ 255 ∷ 255 ∷ 255 ∷ 255 ∷ []) ++ lent 1;
      marks = (0 ∷ 3 ∷ 0 ∷ 1 ∷ 0 ∷ 0 ∷ 0 ∷ 1 ∷ 0 ∷ 1 ∷ 0 ∷ 0 ∷ []) ++ lent 1;
      scratch = replicate 12 0 ++ lent 1;
      tally = (0 ∷ 0 ∷ 0 ∷ 2 ∷ 0 ∷ 1 ∷ 0 ∷ 0 ∷ 0 ∷ 1 ∷ 0 ∷ 2 ∷ []) ++ lent 1;
    }
unfolding any first every exists or_else lowest found how_many grow tabulate overwrite joined entry ordinary failing active resting
    has_practice lesser least hit hits forced rank lost safe try_order choice chosen practice_hit practice_hits practice_fails fault_outcome
    fault mark tally_row tally lands next marked without_marks ends before at_once in_rounds search answer ◌>>=◌ need ◌>>◌ row_at first_command
    command_count list_at size_sound tables_long row_sound rises_at list_sound entry_sound lists_sound sound state_at tree_of state_of plan_of plan_in
    rows_in entries_in entries tables_in left deciding searching rank_table command_table mark_table result_table cleared code gate_decide
    gate_search tally_entries result_entries twos start_of
case_a_decide = refl

case_a_search : gate_search_call (tables_in size rows firsts outcomes) 0 (lent 13) (lent 13) (lent 5)
    ≡ record {
      returns = 0;
      commands = (0 ∷ 0 ∷ 0 ∷ 0 ∷ 255 ∷ 255 ∷ 255 ∷ 255 ∷ 255 ∷ 255 ∷ 255 ∷ 255 ∷ [])
          ++ lent 1;
      scratch = replicate 12 0 ++ lent 1;
      answer = 0 ∷ 0 ∷ 0 ∷ 2 ∷ lent 1;
    }
unfolding any first every exists or_else lowest found how_many grow tabulate overwrite joined entry ordinary failing active resting
    has_practice lesser least hit hits forced rank lost safe try_order choice chosen practice_hit practice_hits practice_fails fault_outcome
    fault mark tally_row tally lands next marked without_marks ends before at_once in_rounds search answer ◌>>=◌ need ◌>>◌ row_at first_command
    command_count list_at size_sound tables_long row_sound rises_at list_sound entry_sound lists_sound sound state_at tree_of state_of plan_of plan_in
    rows_in entries_in entries tables_in left deciding searching rank_table command_table mark_table result_table cleared code gate_decide
    gate_search tally_entries result_entries twos start_of
case_a_search = refl

-- rule L10
case_a_length : length case_a ≡ 94
case_a_length = refl

-- rule B4
one_rest_length : length one_rest ≡ 18
one_rest_length = refl

-- ---- a lost start

-- the plan of rule B9
abbrev chain_in : Answer Tables
chain_in = tables_in (0 ∷ 3 ∷ 0 ∷ 2 ∷ 0 ∷ 2 ∷ 0 ∷ 0 ∷ [])
    (0 ∷ 0 ∷ 0 ∷ 0 ∷ 255 ∷ 255 ∷ 0 ∷ 0 ∷ 0 ∷ 1 ∷ 255 ∷ 255 ∷ 0 ∷ 1 ∷ 0 ∷ 2 ∷ 255 ∷ 255 ∷ []) (0 ∷ 0 ∷ 0 ∷ 1 ∷ []) (0 ∷ 1 ∷ 0 ∷ 2 ∷ [])

-- lost is 1 (case A is safe), and no command is left in the table
lost_search : gate_search_call chain_in 0 (lent 6) (lent 6) (lent 4)
    ≡ record { returns = 0; commands = replicate 6 255; scratch = replicate 6 0; answer = 0 ∷ 1 ∷ 0 ∷ 2 ∷ [] }
unfolding any first every exists or_else lowest found grow tabulate overwrite entry ordinary failing active resting has_practice lesser least
    hit hits try_order choice lands next marked without_marks ends before at_once in_rounds search ◌>>=◌ need ◌>>◌ row_at first_command
    command_count list_at size_sound tables_long row_sound rises_at list_sound entry_sound lists_sound sound state_at tree_of state_of plan_of plan_in
    rows_in entries_in entries tables_in left searching result_table cleared code gate_search result_entries twos start_of
lost_search = refl

-- ---- lengths in bytes: each slice just long enough, then in turn a byte less

read_lengths : code (gate_read case_a 8 36 12 18) ∷ code (gate_read case_a 7 36 12 18) ∷ code (gate_read case_a 8 35 12 18)
    ∷ code (gate_read case_a 8 36 11 18) ∷ code (gate_read case_a 8 36 12 17) ∷ []
    ≡ 0 ∷ 9 ∷ 9 ∷ 9 ∷ 9 ∷ []
unfolding code gate_read reading ◌>>=◌ need ◌>>◌ read head field states state commands command rising entries all_commands rows_from
    firsts_from tables_of joined
read_lengths = refl

-- one rest state
abbrev rest_in : Answer Tables
rest_in = tables_in (0 ∷ 1 ∷ 0 ∷ 0 ∷ 0 ∷ 0 ∷ 0 ∷ 0 ∷ []) (0 ∷ 2 ∷ 0 ∷ 0 ∷ 255 ∷ 255 ∷ []) [] []

decide_lengths : code (gate_decide rest_in 2 2 2 2 12) ∷ code (gate_decide rest_in 1 2 2 2 12) ∷ code (gate_decide rest_in 2 1 2 2 12)
    ∷ code (gate_decide rest_in 2 2 1 2 12) ∷ code (gate_decide rest_in 2 2 2 1 12) ∷ code (gate_decide rest_in 2 2 2 2 11) ∷ []
    ≡ 0 ∷ 9 ∷ 9 ∷ 9 ∷ 9 ∷ 9 ∷ []
unfolding every ◌>>=◌ need ◌>>◌ row_at first_command command_count size_sound tables_long row_sound rises_at list_sound entry_sound lists_sound sound
    rows_in tabulate entries_in entries tables_in deciding code gate_decide start_of
decide_lengths = refl

search_lengths : code (gate_search rest_in 0 2 2 4) ∷ code (gate_search rest_in 0 1 2 4) ∷ code (gate_search rest_in 0 2 1 4)
    ∷ code (gate_search rest_in 0 2 2 3) ∷ []
    ≡ 0 ∷ 9 ∷ 9 ∷ 9 ∷ []
unfolding every ◌>>=◌ need ◌>>◌ row_at first_command command_count size_sound tables_long row_sound rises_at list_sound entry_sound lists_sound sound
    rows_in tabulate entries_in entries tables_in searching code gate_search start_of
search_lengths = refl

-- ---- the order of refusals

-- a size record one byte short before an answer one byte short, of deciding and of the search with a stranger; a stranger before an
-- answer one byte short
gate_order : code (gate_decide (tables_in (lent 7) [] [] []) 2 2 2 2 11) ∷ code (gate_search (tables_in (lent 7) [] [] []) 1 2 2 3)
    ∷ code (gate_search rest_in 1 2 2 3) ∷ []
    ≡ 10 ∷ 10 ∷ 11 ∷ []
unfolding every ◌>>=◌ need ◌>>◌ row_at first_command command_count size_sound tables_long row_sound rises_at list_sound entry_sound lists_sound sound
    rows_in tabulate entries_in entries tables_in searching code gate_decide gate_search start_of
gate_order = refl

-- with room for all but the tally, deciding writes no table
gate_refused : gate_decide_call rest_in (lent 2) (lent 2) (lent 2) (lent 2) (lent 11)
    ≡ record { returns = 9; ranks = lent 2; commands = lent 2; marks = lent 2; scratch = lent 2; tally = lent 11 }
unfolding every ◌>>=◌ need ◌>>◌ row_at first_command command_count size_sound tables_long row_sound rises_at list_sound entry_sound lists_sound sound
    rows_in tabulate entries_in entries tables_in left deciding code gate_decide start_of
gate_refused = refl
