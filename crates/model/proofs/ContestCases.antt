-- The contest, computed: on case A and on a chain, over 0 to 3 moves, and its refusals one before the other.
use mathlib.Core.Path.{◌≡◌, refl}
use mathlib.Core.Bool.{true, false}
use mathlib.Core.List.{[], ◌∷◌}
use Rattle.laws.specs.Sets.{each, every, exists}
use Rattle.laws.specs.Lists.{tabulate}
use Rattle.laws.specs.Starts.{start_of}
use Rattle.model.specs.Plan.{ordinary, failing, resting}
use Rattle.model.specs.Refusal.{Unsound, Stranger, Moves, given, refused, answer, ◌>>=◌, need, ◌>>◌}
use Rattle.model.specs.File.{field, head, state, entries, rising, command, commands, states, read}
use Rattle.model.specs.Places.{row_at, first_command, command_count}
use Rattle.model.specs.SoundTest.{size_sound, tables_long, row_sound, lists_sound, sound}
use Rattle.model.specs.Held.{state_at, tree_of, state_of, plan_of, plan_in}
use Rattle.model.specs.Contest.{works_turn, keeper_turn, contest_call}
use Rattle.model.specs.Bench.{case_a, chain, no_commands}
use Rattle.model.proofs.CasePlans.{resting_at}

-- Case A: 3 is lost with rank 1, 4 is failing and 5 lost with rank 2; the others are safe.
case_a_turns : answer (λ p. tabulate (λ k. tabulate (keeper_turn (plan_of p) k) 0 6) 0 4) (read case_a)
    ≡ given (
    (true ∷ true ∷ true ∷ true ∷ false ∷ true ∷ [])
    ∷ (true ∷ true ∷ true ∷ false ∷ false ∷ true ∷ [])
    ∷ (true ∷ true ∷ true ∷ false ∷ false ∷ false ∷ [])
    ∷ (true ∷ true ∷ true ∷ false ∷ false ∷ false ∷ [])
    ∷ []
    )
unfolding each exists tabulate ordinary failing resting works_turn keeper_turn answer ◌>>=◌ need ◌>>◌ field head state entries rising
    command commands states read state_of plan_of
case_a_turns = refl

-- the chain to a failing state, whose ranks are 2, 1 and 0
chain_turns : answer (λ p. tabulate (λ k. tabulate (keeper_turn (plan_of p) k) 0 3) 0 3) (read chain)
    ≡ given ((true ∷ true ∷ false ∷ []) ∷ (true ∷ false ∷ false ∷ []) ∷ (false ∷ false ∷ false ∷ []) ∷ [])
unfolding each exists tabulate ordinary failing resting works_turn keeper_turn answer ◌>>=◌ need ◌>>◌ field head state entries rising
    command commands states read state_of plan_of
chain_turns = refl

-- a stuck state, which is not held though no moves are left, nor with any
stuck_turns : answer (λ p. tabulate (λ k. keeper_turn (plan_of p) k 0) 0 3) (read no_commands) ≡ given (false ∷ false ∷ false ∷ [])
unfolding each exists tabulate ordinary failing resting works_turn keeper_turn answer ◌>>=◌ need ◌>>◌ field head state entries rising
    command commands states read state_of plan_of
stuck_turns = refl

-- 8 moves are answered and 9 are not; a state that there is not comes before, and a plan that is not sound before both
eight : contest_call (resting_at 0) 0 8 ≡ given true
unfolding every tabulate row_at first_command command_count size_sound tables_long row_sound lists_sound sound start_of need ◌>>◌ failing resting
    keeper_turn contest_call state_at tree_of state_of plan_of plan_in
eight = refl

nine : contest_call (resting_at 0) 0 9 ≡ refused Moves
unfolding every row_at first_command command_count size_sound tables_long row_sound lists_sound sound start_of need ◌>>◌ contest_call
nine = refl

stranger_first : contest_call (resting_at 0) 1 9 ≡ refused Stranger
unfolding every row_at first_command command_count size_sound tables_long row_sound lists_sound sound start_of need ◌>>◌ contest_call
stranger_first = refl

unsound_first : contest_call (resting_at 1) 1 9 ≡ refused Unsound
unfolding size_sound sound need ◌>>◌ contest_call
unsound_first = refl
