-- The bench plans of rules B3 to B12, and case A's listing: what the definitions compute is what the rules say.
use mathlib.Core.Path.{◌≡◌, refl}
use mathlib.Core.List.{map}
use Rattle.laws.specs.Sets.{any, first, lesser, least, every, exists, or_else, lowest, found, how_many, grow}
use Rattle.laws.specs.Lists.{tabulate, joined}
use Rattle.laws.specs.Entry.{entry}
use Rattle.laws.specs.Starts.{start_of}
use Rattle.model.specs.Plan.{ordinary, failing, active, resting, has_practice}
use Rattle.model.specs.Verdict.{hit, hits, forced, rank, lost, safe}
use Rattle.model.specs.Command.{try_order, choice, chosen}
use Rattle.model.specs.Practice.{practice_hit, practice_hits, practice_fails, fault, fault_outcome, mark, tally_row, tally}
use Rattle.model.specs.Search.{lands, next, marked, without_marks, ends, before, at_once, in_rounds, search}
use Rattle.model.specs.Refusal.{◌>>=◌, need, ◌>>◌}
use Rattle.model.specs.File.{field, head, state, entries, rising, command, commands, states, read}
use Rattle.model.specs.Tables.{all_commands, rows_from, firsts_from, tables_of}
use Rattle.model.specs.Places.{row_at, first_command, command_count, list_at}
use Rattle.model.specs.SoundTest.{size_sound, tables_long, row_sound, rises_at, list_sound, entry_sound, lists_sound, sound}
use Rattle.model.specs.Held.{state_at, tree_of, state_of, plan_of, plan_in}
use Rattle.model.specs.Calls.{reading, deciding, searching, rank_table, command_table, mark_table}
use Rattle.model.specs.Listing.{
  last_digit,
  digits,
  decimal,
  line,
  kind_letter,
  verdict_letter,
  number_or_dash,
  practice_letter,
  fault_sign,
  plan_line,
  state_line,
  tally_line,
  start_line,
  plan_text,
  answer_text,
  listing,
}
use Rattle.model.specs.Bench.{judged, case_a, case_a_listing, benches}

pub bench_plans : map (λ b. judged b.file) benches ≡ map (λ b. b.says) benches
unfolding any first every exists or_else lowest found how_many grow tabulate joined entry ordinary failing active resting has_practice lesser
    least hit hits forced rank lost safe try_order choice chosen practice_hit practice_hits practice_fails fault_outcome fault mark tally_row
    tally lands next marked without_marks ends before at_once in_rounds search ◌>>=◌ need ◌>>◌ field head state entries rising command
    commands states read all_commands rows_from firsts_from tables_of row_at first_command command_count list_at size_sound tables_long row_sound
    rises_at list_sound entry_sound lists_sound sound state_at tree_of state_of plan_of plan_in reading deciding searching rank_table command_table
    mark_table judged start_of
bench_plans = refl

pub case_a_listing_lem : listing case_a ≡ case_a_listing
unfolding any first every exists or_else lowest found how_many grow tabulate joined ordinary failing active resting has_practice lesser least
    hit hits forced rank lost safe try_order choice chosen practice_hit practice_hits practice_fails fault_outcome fault mark tally_row tally
    lands next marked without_marks ends before at_once in_rounds search ◌>>=◌ need ◌>>◌ field head state entries rising command commands
    states read all_commands rows_from firsts_from tables_of state_of plan_of last_digit digits decimal line kind_letter
    verdict_letter number_or_dash practice_letter fault_sign plan_line state_line tally_line start_line plan_text answer_text listing
case_a_listing_lem = refl
