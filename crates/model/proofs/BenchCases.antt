-- Small cases, computed: where a definition could be misread, what it gives.
use mathlib.Core.Path.{◌≡◌, refl}
use mathlib.Core.Bool.{true, false, cond}
use mathlib.Core.List.{List, [], ◌∷◌, ◌++◌, map}
use Prim.Native.Nat.{ℕ}
use lib.ListN.{length, replicate}
use Rattle.laws.specs.Sets.{any, first, lesser, least, every, exists, or_else, lowest, found, how_many, grow}
use Rattle.laws.specs.Lists.{tabulate, joined, overwrite}
use Rattle.laws.specs.Entry.{FFFF, entry}
use Rattle.laws.specs.Starts.{start_of}
use Rattle.model.specs.Plan.{ordinary, failing, active, resting, has_practice}
use Rattle.model.specs.Verdict.{hit, hits, forced, rank, lost, safe}
use Rattle.model.specs.Command.{try_order, choice, chosen}
use Rattle.model.specs.Practice.{practice_hit, practice_hits, practice_fails, fault_outcome, fault, mark, tally_row, tally}
use Rattle.model.specs.Search.{lands, next, marked, without_marks, ends, before, at_once, in_rounds, search}
use Rattle.model.specs.Refusal.{
  Cut,
  Surplus,
  Tag,
  Length,
  Beyond,
  Unsorted,
  Idle,
  Limit,
  Cramped,
  Unsound,
  Stranger,
  given,
  refused,
  answer,
  ◌>>=◌,
  need,
  ◌>>◌,
}
use Rattle.model.specs.File.{State, field, head, state, entries, rising, command, commands, states, read}
use Rattle.model.specs.Tables.{Tables, all_commands, rows_from, firsts_from, tables_of}
use Rattle.model.specs.Places.{row_at, first_command, command_count, list_at}
use Rattle.model.specs.SoundTest.{size_sound, tables_long, row_sound, rises_at, list_sound, entry_sound, lists_sound, sound}
use Rattle.model.specs.Held.{state_at, tree_of, state_of, plan_of, plan_in}
use Rattle.model.specs.Calls.{
  left,
  reading,
  deciding,
  searching,
  rank_table,
  command_table,
  mark_table,
  result_table,
  cleared,
  decide_call,
  search_call,
}
use Rattle.model.specs.Boundary.{entries_in, rows_in, row_entries, tables_in, gate_read, code}
use Rattle.model.specs.Bench.{one_rest}
use Rattle.model.specs.Listing.{last_digit, digits, decimal}
use Rattle.model.proofs.CasePlans.{acting, rest, failed, planned}

-- ---- verdicts: ranks, commands and marks

abbrev verdicts : List State → List (List ℕ)
verdicts ss = let P = planned ss in rank_table P ∷ command_table P ∷ mark_table P ∷ []

-- Of two commands without a lost outcome the lower is chosen, and the practice before both. A ring of three that holds; the same
-- ring with a leak, of which no state is safe. A fault whose practice holds: it steps to a lost state where the practice is none.
-- A practice that may land on a stuck state, which has rank 0, and a state with no other way, which has rank 1.
verdict_examples : map verdicts (
    (acting FFFF ((0 ∷ []) ∷ (1 ∷ []) ∷ []) ∷ acting 1 ((0 ∷ []) ∷ (1 ∷ []) ∷ []) ∷ [])
    ∷ (acting FFFF ((1 ∷ []) ∷ []) ∷ acting FFFF ((2 ∷ []) ∷ []) ∷ acting FFFF ((0 ∷ []) ∷ []) ∷ failed ∷ [])
    ∷ (acting FFFF ((1 ∷ []) ∷ []) ∷ acting FFFF ((2 ∷ []) ∷ []) ∷ acting FFFF ((0 ∷ 3 ∷ []) ∷ []) ∷ failed ∷ [])
    ∷ (acting 0 ((1 ∷ []) ∷ (0 ∷ []) ∷ []) ∷ acting FFFF ((2 ∷ []) ∷ []) ∷ failed ∷ [])
    ∷ (acting 0 ((1 ∷ 2 ∷ []) ∷ (2 ∷ []) ∷ []) ∷ acting FFFF [] ∷ rest ∷ acting 0 ((1 ∷ []) ∷ []) ∷ [])
    ∷ [])
    ≡ ((FFFF ∷ FFFF ∷ []) ∷ (0 ∷ 1 ∷ []) ∷ (0 ∷ 0 ∷ []) ∷ [])
    ∷ ((FFFF ∷ FFFF ∷ FFFF ∷ 0 ∷ []) ∷ (0 ∷ 0 ∷ 0 ∷ FFFF ∷ []) ∷ (0 ∷ 0 ∷ 0 ∷ 1 ∷ []) ∷ [])
    ∷ ((3 ∷ 2 ∷ 1 ∷ 0 ∷ []) ∷ (FFFF ∷ FFFF ∷ FFFF ∷ FFFF ∷ []) ∷ (0 ∷ 0 ∷ 0 ∷ 1 ∷ []) ∷ [])
    ∷ ((FFFF ∷ 1 ∷ 0 ∷ []) ∷ (1 ∷ FFFF ∷ FFFF ∷ []) ∷ (2 ∷ 0 ∷ 1 ∷ []) ∷ [])
    ∷ ((FFFF ∷ 0 ∷ FFFF ∷ 1 ∷ []) ∷ (1 ∷ FFFF ∷ FFFF ∷ FFFF ∷ []) ∷ (3 ∷ 1 ∷ 0 ∷ 1 ∷ []) ∷ [])
    ∷ []
unfolding any first every or_else lowest found grow tabulate entry ordinary failing active has_practice lesser least hit hits forced rank
    lost safe try_order choice chosen practice_hit practice_hits practice_fails fault_outcome fault mark state_of plan_of rank_table command_table
    mark_table
verdict_examples = refl

-- ---- the search: verdict, rounds and commands, from a start

abbrev searched : List State → ℕ → List ℕ
searched ss a = let R = search (planned ss) a in cond R.lost 1 0 ∷ R.rounds ∷ result_table (length ss) R

-- The leaking ring of three is lost from each of its places, after 3, 2 and 1 rounds; the one that holds is safe after one round.
-- A walk does not go on to a stuck state, which is known from the beginning. A failing start, a stuck one and one at rest take no round.
search_examples : map (searched (acting FFFF ((1 ∷ []) ∷ []) ∷ acting FFFF ((2 ∷ []) ∷ []) ∷ acting FFFF ((0 ∷ 3 ∷ []) ∷ []) ∷ failed ∷ []))
    (0 ∷ 1 ∷ 2 ∷ 3 ∷ [])
    ++ map (searched (acting FFFF ((2 ∷ []) ∷ (1 ∷ []) ∷ []) ∷ acting FFFF ((0 ∷ []) ∷ []) ∷ acting FFFF [] ∷ rest ∷ []))
    (0 ∷ 2 ∷ 3 ∷ [])
    ≡ (1 ∷ 3 ∷ FFFF ∷ FFFF ∷ FFFF ∷ FFFF ∷ []) ∷ (1 ∷ 2 ∷ FFFF ∷ FFFF ∷ FFFF ∷ FFFF ∷ []) ∷ (1 ∷ 1 ∷ FFFF ∷ FFFF ∷ FFFF ∷ FFFF ∷ [])
    ∷ (1 ∷ 0 ∷ FFFF ∷ FFFF ∷ FFFF ∷ FFFF ∷ [])
    ∷ (0 ∷ 1 ∷ 1 ∷ 0 ∷ FFFF ∷ FFFF ∷ []) ∷ (1 ∷ 0 ∷ FFFF ∷ FFFF ∷ FFFF ∷ FFFF ∷ []) ∷ (0 ∷ 0 ∷ FFFF ∷ FFFF ∷ FFFF ∷ FFFF ∷ [])
    ∷ []
unfolding any first every exists or_else lowest found grow tabulate entry ordinary failing active resting has_practice lesser least hit hits
    try_order choice lands next marked without_marks ends before at_once in_rounds search state_of plan_of result_table
search_examples = refl

-- ---- reading: the order of the checks

-- In turn:
-- two bytes with a wrong tag are cut;
-- the end tag where a state is due is the wrong tag;
-- a length that is not allowed comes before a value that is missing;
-- a value that is missing comes before an n of 0;
-- the start is not below n;
-- kind 3 with a command: beyond, not idle;
-- a rest state with a practice;
-- a practice that equals the count;
-- 65,535 commands announced and nothing behind: limit, not cut;
-- an odd length;
-- outcomes 1, 1 on two states;
-- outcomes 1, 0, 9: each entry in turn;
-- outcomes 1, 9, 0;
-- a byte after the end field;
-- the same without it.
reading_examples : map (λ file. answer (λ p. p.start) (read file)) (
    (0x09 ∷ 0x09 ∷ [])
    ∷ (0x01 ∷ 0x00 ∷ 0x04 ∷ 0x00 ∷ 0x01 ∷ 0x00 ∷ 0x00 ∷ 0x04 ∷ 0x00 ∷ 0x00 ∷ [])
    ∷ (0x01 ∷ 0x00 ∷ 0x05 ∷ [])
    ∷ (0x01 ∷ 0x00 ∷ 0x04 ∷ 0x00 ∷ 0x00 ∷ [])
    ∷ (0x01 ∷ 0x00 ∷ 0x04 ∷ 0x00 ∷ 0x01 ∷ 0x00 ∷ 0x01 ∷ [])
    ∷ (0x01 ∷ 0x00 ∷ 0x04 ∷ 0x00 ∷ 0x01 ∷ 0x00 ∷ 0x00 ∷ 0x02 ∷ 0x00 ∷ 0x05 ∷ 0x03 ∷ 0x00 ∷ 0x01 ∷ 0xff ∷ 0xff ∷ [])
    ∷ (0x01 ∷ 0x00 ∷ 0x04 ∷ 0x00 ∷ 0x01 ∷ 0x00 ∷ 0x00 ∷ 0x02 ∷ 0x00 ∷ 0x05 ∷ 0x02 ∷ 0x00 ∷ 0x00 ∷ 0x00 ∷ 0x00 ∷ [])
    ∷ (0x01 ∷ 0x00 ∷ 0x04 ∷ 0x00 ∷ 0x01 ∷ 0x00 ∷ 0x00 ∷ 0x02 ∷ 0x00 ∷ 0x05 ∷ 0x00 ∷ 0x00 ∷ 0x01 ∷ 0x00 ∷ 0x01 ∷ [])
    ∷ (0x01 ∷ 0x00 ∷ 0x04 ∷ 0x00 ∷ 0x01 ∷ 0x00 ∷ 0x00 ∷ 0x02 ∷ 0x00 ∷ 0x05 ∷ 0x00 ∷ 0xff ∷ 0xff ∷ 0xff ∷ 0xff ∷ [])
    ∷ (0x01 ∷ 0x00 ∷ 0x04 ∷ 0x00 ∷ 0x01 ∷ 0x00 ∷ 0x00 ∷ 0x02 ∷ 0x00 ∷ 0x05 ∷ 0x00 ∷ 0x00 ∷ 0x01 ∷ 0xff ∷ 0xff ∷ 0x03 ∷ 0x00 ∷ 0x03 ∷ [])
    ∷ (0x01 ∷ 0x00 ∷ 0x04 ∷ 0x00 ∷ 0x02 ∷ 0x00 ∷ 0x00 ∷ 0x02 ∷ 0x00 ∷ 0x05 ∷ 0x00 ∷ 0x00 ∷ 0x01 ∷ 0xff ∷ 0xff ∷ 0x03 ∷ 0x00 ∷ 0x04 ∷ 0x00
    ∷ 0x01 ∷ 0x00 ∷ 0x01 ∷ [])
    ∷ (0x01 ∷ 0x00 ∷ 0x04 ∷ 0x00 ∷ 0x02 ∷ 0x00 ∷ 0x00 ∷ 0x02 ∷ 0x00 ∷ 0x05 ∷ 0x00 ∷ 0x00 ∷ 0x01 ∷ 0xff ∷ 0xff ∷ 0x03 ∷ 0x00 ∷ 0x06 ∷ 0x00
    ∷ 0x01 ∷ 0x00 ∷ 0x00 ∷ 0x00 ∷ 0x09 ∷ [])
    ∷ (0x01 ∷ 0x00 ∷ 0x04 ∷ 0x00 ∷ 0x02 ∷ 0x00 ∷ 0x00 ∷ 0x02 ∷ 0x00 ∷ 0x05 ∷ 0x00 ∷ 0x00 ∷ 0x01 ∷ 0xff ∷ 0xff ∷ 0x03 ∷ 0x00 ∷ 0x06 ∷ 0x00
    ∷ 0x01 ∷ 0x00 ∷ 0x09 ∷ 0x00 ∷ 0x00 ∷ [])
    ∷ (0x01 ∷ 0x00 ∷ 0x04 ∷ 0x00 ∷ 0x01 ∷ 0x00 ∷ 0x00 ∷ 0x02 ∷ 0x00 ∷ 0x05 ∷ 0x02 ∷ 0x00 ∷ 0x00 ∷ 0xff ∷ 0xff ∷ 0x04 ∷ 0x00 ∷ 0x00 ∷ 0x00
    ∷ [])
    ∷ (0x01 ∷ 0x00 ∷ 0x04 ∷ 0x00 ∷ 0x01 ∷ 0x00 ∷ 0x00 ∷ 0x02 ∷ 0x00 ∷ 0x05 ∷ 0x02 ∷ 0x00 ∷ 0x00 ∷ 0xff ∷ 0xff ∷ 0x04 ∷ 0x00 ∷ 0x00 ∷ [])
    ∷ [])
    ≡ refused Cut ∷ refused Tag ∷ refused Length ∷ refused Cut ∷ refused Beyond ∷ refused Beyond ∷ refused Idle ∷ refused Idle
    ∷ refused Limit ∷ refused Length ∷ refused Unsorted ∷ refused Unsorted ∷ refused Beyond ∷ refused Surplus ∷ given 0 ∷ []
unfolding answer ◌>>=◌ need ◌>>◌ read head field states state commands command entries rising
reading_examples = refl

-- ---- soundness

-- tables with the numbers n, m, t, start; three entries a row
abbrev lent : ℕ → ℕ → ℕ → ℕ → List ℕ → List ℕ → List ℕ → Tables
lent n m t start rows firsts outcomes =
    record { size = record { n = n; m = m; t = t; start = start }; rows = rows_in rows; firsts = firsts; outcomes = outcomes }

-- One rest state is sound, also with more in the tables than their counts. Not sound: a kind of hexadecimal 0100; a first command that is
-- not 0;
-- an outcome that no command has; a start that is not below n; a row too few. Sound: a state that steps to itself; not with t one more,
-- nor with its command past the table.
sound_examples : map sound (
    lent 1 0 0 0 (2 ∷ 0 ∷ FFFF ∷ []) [] []
    ∷ lent 1 0 0 0 (2 ∷ 0 ∷ FFFF ∷ 7 ∷ 7 ∷ 7 ∷ []) (5 ∷ []) (6 ∷ [])
    ∷ lent 1 0 0 0 (0x100 ∷ 0 ∷ FFFF ∷ []) [] []
    ∷ lent 1 0 0 0 (2 ∷ 1 ∷ FFFF ∷ []) [] []
    ∷ lent 1 0 1 0 (2 ∷ 0 ∷ FFFF ∷ []) [] (0 ∷ [])
    ∷ lent 1 0 0 1 (2 ∷ 0 ∷ FFFF ∷ []) [] []
    ∷ lent 2 0 0 0 (2 ∷ 0 ∷ FFFF ∷ []) [] []
    ∷ lent 1 1 1 0 (0 ∷ 0 ∷ 0 ∷ []) (0 ∷ []) (0 ∷ [])
    ∷ lent 1 1 2 0 (0 ∷ 0 ∷ 0 ∷ []) (0 ∷ []) (0 ∷ 0 ∷ [])
    ∷ lent 1 1 1 0 (0 ∷ 0 ∷ 0 ∷ []) [] (0 ∷ [])
    ∷ [])
    ≡ true ∷ true ∷ false ∷ false ∷ false ∷ false ∷ false ∷ true ∷ false ∷ false ∷ []
unfolding every row_at first_command command_count size_sound tables_long row_sound rises_at list_sound entry_sound lists_sound sound rows_in tabulate
    start_of
sound_examples = refl

-- ---- the calls: what is answered, and every lent table afterwards

-- 0 to {1,2} by its practice, both of them rest: n, m and t are all different, and each table has a place to spare
abbrev fork : Tables
fork = lent 3 1 2 0 (0 ∷ 0 ∷ 0 ∷ 2 ∷ 1 ∷ FFFF ∷ 2 ∷ 1 ∷ FFFF ∷ []) (0 ∷ []) (1 ∷ 2 ∷ [])

decide_example : decide_call fork (replicate 4 7) (replicate 4 7) (replicate 4 7) (replicate 4 7) ≡ record {
  answers = given ((1 ∷ 0 ∷ 2 ∷ []) ∷ (0 ∷ 0 ∷ 0 ∷ []) ∷ []);
  ranks = FFFF ∷ FFFF ∷ FFFF ∷ 7 ∷ [];
  commands = 0 ∷ FFFF ∷ FFFF ∷ 7 ∷ [];
  marks = 0 ∷ 0 ∷ 0 ∷ 7 ∷ [];
  scratch = 0 ∷ 0 ∷ 0 ∷ 7 ∷ [];
}
unfolding any first every or_else lowest found how_many grow tabulate overwrite entry ordinary failing active has_practice lesser least hit
    hits forced rank lost safe try_order choice chosen practice_hit practice_hits practice_fails fault_outcome fault mark tally_row tally answer
    ◌>>=◌ need ◌>>◌ row_at first_command command_count list_at size_sound tables_long row_sound rises_at list_sound entry_sound lists_sound sound
    state_at tree_of state_of plan_of plan_in rows_in left deciding rank_table command_table mark_table cleared start_of
decide_example = refl

-- a state that steps to itself, with a table one place short
abbrev loop : Tables
loop = lent 1 1 1 0 (0 ∷ 0 ∷ 0 ∷ []) (0 ∷ []) (0 ∷ [])

decide_cramped : decide_call loop (7 ∷ []) (7 ∷ []) (7 ∷ []) [] ≡ record {
  answers = refused Cramped;
  ranks = 7 ∷ [];
  commands = 7 ∷ [];
  marks = 7 ∷ [];
  scratch = [];
}
unfolding every answer need ◌>>◌ row_at first_command command_count size_sound tables_long row_sound rises_at list_sound entry_sound lists_sound
    sound rows_in tabulate left deciding start_of
decide_cramped = refl

search_example : search_call fork 0 (replicate 4 7) (replicate 4 7)
    ≡ record { answers = given (false, 1); commands = 0 ∷ FFFF ∷ FFFF ∷ 7 ∷ []; scratch = 0 ∷ 0 ∷ 0 ∷ 7 ∷ [] }
unfolding any first every exists or_else lowest found grow tabulate overwrite entry ordinary failing active resting has_practice lesser least
    hit hits try_order choice lands next marked without_marks ends before at_once in_rounds search answer ◌>>=◌ need ◌>>◌ row_at first_command
    command_count list_at size_sound tables_long row_sound rises_at list_sound entry_sound lists_sound sound state_at tree_of state_of plan_of plan_in
    rows_in left searching result_table cleared start_of
search_example = refl

-- the order of refusals: an unsound plan, a stranger and a short table; then without the first; then the last alone
search_refusals : (search_call (lent 1 1 2 0 (0 ∷ 0 ∷ 0 ∷ []) (0 ∷ []) (0 ∷ [])) 1 [] []).answers ∷ (search_call loop 1 [] []).answers
    ∷ (search_call loop 0 [] []).answers ∷ []
    ≡ refused Unsound ∷ refused Stranger ∷ refused Cramped ∷ []
unfolding every answer need ◌>>◌ row_at first_command command_count size_sound tables_long row_sound rises_at list_sound entry_sound lists_sound
    sound rows_in tabulate searching start_of
search_refusals = refl

-- ---- the C boundary

-- a byte left over is no entry, entries left over are no row, and what is taken out is what was put in
encodings : entries_in (1 ∷ 2 ∷ 255 ∷ 255 ∷ 9 ∷ []) ≡ 0x102 ∷ FFFF ∷ []
unfolding entries_in entries
encodings = refl

rows_again : row_entries (rows_in (0 ∷ 1 ∷ FFFF ∷ 2 ∷ 3 ∷ 4 ∷ 5 ∷ [])) ≡ 0 ∷ 1 ∷ FFFF ∷ 2 ∷ 3 ∷ 4 ∷ []
unfolding row_entries rows_in tabulate
rows_again = refl

-- one rest state read with slices that hold it, with a row one byte short, and with a size record one byte short; a size record lent in
-- one byte short
short_slices : code (gate_read one_rest 8 6 0 0) ∷ code (gate_read one_rest 8 5 0 0) ∷ code (gate_read one_rest 7 6 0 0)
    ∷ code (tables_in (0 ∷ 1 ∷ 0 ∷ 0 ∷ 0 ∷ 0 ∷ 0 ∷ []) [] [] []) ∷ []
    ≡ 0 ∷ 9 ∷ 9 ∷ 10 ∷ []
unfolding code gate_read tables_in reading ◌>>=◌ need ◌>>◌ read head field states state commands all_commands rows_from firsts_from tables_of
    joined
short_slices = refl

-- ---- decimal numbers

decimal_examples : map decimal (0 ∷ 9 ∷ 10 ∷ 99 ∷ 100 ∷ 1005 ∷ 16384 ∷ 65535 ∷ [])
    ≡ (48 ∷ []) ∷ (57 ∷ []) ∷ (49 ∷ 48 ∷ []) ∷ (57 ∷ 57 ∷ []) ∷ (49 ∷ 48 ∷ 48 ∷ []) ∷ (49 ∷ 48 ∷ 48 ∷ 53 ∷ [])
    ∷ (49 ∷ 54 ∷ 51 ∷ 56 ∷ 52 ∷ []) ∷ (54 ∷ 53 ∷ 53 ∷ 51 ∷ 53 ∷ []) ∷ []
unfolding last_digit digits decimal
decimal_examples = refl
