-- Reading and writing as calls, computed: what is answered, and every lent table afterwards.
use mathlib.Core.Path.{◌≡◌, refl}
use mathlib.Core.List.{[], ◌∷◌, ◌++◌}
use lib.ListN.{replicate}
use Rattle.laws.specs.Sets.{every}
use Rattle.laws.specs.Lists.{tabulate, joined, overwrite}
use Rattle.laws.specs.Entry.{FFFF, twos}
use Rattle.laws.specs.Starts.{start_of}
use Rattle.model.specs.Refusal.{Surplus, Cramped, Unsound, given, refused, answer, ◌>>=◌, need, ◌>>◌}
use Rattle.model.specs.File.{field, head, state, entries, rising, command, commands, states, read}
use Rattle.model.specs.Bytes.{commands_bytes, states_bytes, bytes_of}
use Rattle.model.specs.Tables.{Row, Tables, all_commands, rows_from, firsts_from, tables_of, size_length}
use Rattle.model.specs.Places.{row_at, first_command, command_count, list_at}
use Rattle.model.specs.SoundTest.{size_sound, tables_long, row_sound, rises_at, list_sound, entry_sound, lists_sound, sound}
use Rattle.model.specs.Held.{state_at, tree_of}
use Rattle.model.specs.Calls.{left, reading, writing, read_call, write_call}
use Rattle.model.specs.Bench.{to_itself}

abbrev seven : Row
seven = record { kind = 7; first = 7; practice = 7 }

abbrev own : Row
own = record { kind = 0; first = 0; practice = FFFF }

-- 0 to {0}, with a place to spare in every table: the counts are answered, and the last places are as they were
read_example : read_call to_itself (seven ∷ seven ∷ []) (7 ∷ 7 ∷ []) (7 ∷ 7 ∷ [])
    ≡ record {
      answers = given (record { n = 1; m = 1; t = 1; start = 0 });
      rows = own ∷ seven ∷ [];
      firsts = 0 ∷ 7 ∷ [];
      outcomes = 0 ∷ 7
          ∷ [];
    }
unfolding answer left overwrite reading read head field states state commands command entries rising all_commands rows_from firsts_from
    tables_of joined ◌>>=◌ need ◌>>◌
read_example = refl

-- a byte too many: what was read of the plan before it is in no table
read_refused : read_call (to_itself ++ 0 ∷ []) (seven ∷ []) (7 ∷ []) (7 ∷ [])
    ≡ record { answers = refused Surplus; rows = seven ∷ []; firsts = 7 ∷ []; outcomes = 7 ∷ [] }
unfolding answer left reading read head field states state commands command entries rising ◌>>=◌ need ◌>>◌
read_refused = refl

-- the same plan, in tables with more in them than their counts
abbrev tables : Tables
tables = record { size = record { n = 1; m = 1; t = 1; start = 0 }; rows = own ∷ seven ∷ []; firsts = 0 ∷ 7 ∷ []; outcomes = 0 ∷ 7 ∷ [] }

-- 10 + 8 + 3 + 2 bytes, with a byte to spare: the length is answered, nothing past the counts is written
write_example : write_call tables (replicate 24 7) ≡ record { answers = given 23; bytes = to_itself ++ 7 ∷ [] }
unfolding every answer left overwrite twos tabulate writing commands_bytes states_bytes bytes_of size_length row_at first_command command_count
    list_at size_sound tables_long row_sound rises_at list_sound entry_sound lists_sound sound state_at tree_of need ◌>>◌ start_of
write_example = refl

-- a byte too few
write_cramped : write_call tables (replicate 22 7) ≡ record { answers = refused Cramped; bytes = replicate 22 7 }
unfolding every answer left writing size_length row_at first_command command_count size_sound tables_long row_sound rises_at list_sound entry_sound
    lists_sound sound need ◌>>◌ start_of
write_cramped = refl

-- a start that is no state, and no byte: unsound before cramped
write_unsound : write_call (record { size = record { n = 1; m = 1; t = 1; start = 1 }; rows = own ∷ []; firsts = 0 ∷ []; outcomes = 0 ∷ [] })
    []
    ≡ record { answers = refused Unsound; bytes = [] }
unfolding answer left writing size_sound sound need ◌>>◌
write_unsound = refl

-- rule F8: case A, with its three counts 6, 6 and 9
case_a_size : size_length (record { n = 6; m = 6; t = 9; start = 0 }) ≡ 94
unfolding size_length
case_a_size = refl
