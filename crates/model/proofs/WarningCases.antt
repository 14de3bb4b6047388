-- The warning time, computed: on case A, at the limits, and its refusals one before the other.
use mathlib.Core.Path.{◌≡◌, refl}
use mathlib.Core.List.{[], ◌∷◌}
use mathlib.Core.Option.{none, some}
use Prim.Native.Nat.{ℕ}
use Rattle.laws.specs.Sets.{least, found, every, lowest, grow}
use Rattle.laws.specs.Lists.{tabulate}
use Rattle.laws.specs.Starts.{start_of}
use Rattle.model.specs.Plan.{ordinary, active, failing}
use Rattle.model.specs.Verdict.{hit, hits, forced, rank}
use Rattle.model.specs.Refusal.{Unsound, Stranger, Seconds, given, refused, answer, ◌>>=◌, need, ◌>>◌}
use Rattle.model.specs.File.{field, head, state, entries, rising, command, commands, states, read}
use Rattle.model.specs.Places.{row_at, first_command, command_count}
use Rattle.model.specs.SoundTest.{size_sound, tables_long, row_sound, lists_sound, sound}
use Rattle.model.specs.Held.{state_at, tree_of, state_of, plan_of, plan_in}
use Rattle.model.specs.Warning.{Time, time_of, no_time, warning, warning_call}
use Rattle.model.specs.Bench.{case_a, no_commands}
use Rattle.model.proofs.CasePlans.{resting_at}

abbrev time : ℕ → ℕ → Time
time minutes seconds = record { minutes = minutes; seconds = seconds }

-- Case A, where a move takes 59 seconds: 3 is lost with rank 1, 4 is failing and 5 lost with rank 2; the others are safe.
case_a_times : answer (λ p. tabulate (λ s. warning (rank (plan_of p) s) 59) 0 6) (read case_a)
    ≡ given (none ∷ none ∷ none ∷ some (time 0 59) ∷ some no_time ∷ some (time 1 58) ∷ [])
unfolding least found every lowest grow tabulate ordinary active failing hit hits forced rank answer ◌>>=◌ need ◌>>◌ field head state
    entries rising command commands states read state_of plan_of time_of warning
case_a_times = refl

-- a stuck state
stuck_time : answer (λ p. warning (rank (plan_of p) 0) 3600) (read no_commands) ≡ given (some no_time)
unfolding lowest grow failing rank answer ◌>>=◌ need ◌>>◌ field head state commands states read state_of plan_of time_of warning
stuck_time = refl

-- the highest rank that a plan can have, with moves of 1, 59, 60, 61, 3,599 and 3,600 seconds
longest_times : (warning (some 1023) 1 ≡ some (time 17 3)) × (warning (some 1023) 59 ≡ some (time 1005 57))
    × (warning (some 1023) 60 ≡ some (time 1023 0)) × (warning (some 1023) 61 ≡ some (time 1040 3))
    × (warning (some 1023) 3599 ≡ some (time 61362 57)) × (warning (some 1023) 3600 ≡ some (time 61380 0))
unfolding time_of warning
longest_times = (refl, refl, refl, refl, refl, refl)

-- a safe state has no limit, with moves of 1 and of 3,600 seconds; 0 and 3,601 seconds are refused
answered : (warning_call (resting_at 0) 0 1 ≡ given none) × (warning_call (resting_at 0) 0 3600 ≡ given none)
unfolding every lowest grow tabulate row_at first_command command_count size_sound tables_long row_sound lists_sound sound start_of need ◌>>◌
    ordinary active failing forced rank state_at tree_of state_of plan_of plan_in warning warning_call
answered = (refl, refl)

too_short_or_long : (warning_call (resting_at 0) 0 0 ≡ refused Seconds) × (warning_call (resting_at 0) 0 3601 ≡ refused Seconds)
unfolding every row_at first_command command_count size_sound tables_long row_sound lists_sound sound start_of need ◌>>◌ warning_call
too_short_or_long = (refl, refl)

-- a state that there is not comes before, and a plan that is not sound before both
stranger_first : (warning_call (resting_at 0) 1 0 ≡ refused Stranger) × (warning_call (resting_at 0) 1 3601 ≡ refused Stranger)
unfolding every row_at first_command command_count size_sound tables_long row_sound lists_sound sound start_of need ◌>>◌ warning_call
stranger_first = (refl, refl)

unsound_first : (warning_call (resting_at 1) 1 0 ≡ refused Unsound) × (warning_call (resting_at 1) 0 3601 ≡ refused Unsound)
unfolding size_sound sound need ◌>>◌ warning_call
unsound_first = (refl, refl)
