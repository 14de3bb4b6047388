-- The search, computed: what the last walk reaches, and the bound on the rounds.
use mathlib.Core.Path.{◌≡◌, refl}
use mathlib.Core.Bool.{true, false}
use mathlib.Core.List.{[], ◌∷◌, map}
use Rattle.laws.specs.Sets.{any, first, lesser, least, every, exists, or_else, lowest, found, how_many, grow}
use Rattle.laws.specs.Lists.{tabulate}
use Rattle.model.specs.Plan.{ordinary, failing, active, resting, has_practice}
use Rattle.model.specs.Verdict.{hit, hits}
use Rattle.model.specs.Command.{try_order, choice}
use Rattle.model.specs.Search.{lands, next, marked, without_marks, ends, before, at_once, in_rounds, search, actives}
use Rattle.model.specs.Refusal.{given, answer, ◌>>=◌, need, ◌>>◌}
use Rattle.model.specs.File.{field, head, state, entries, rising, command, commands, states, read}
use Rattle.model.specs.Held.{state_of, plan_of}
use Rattle.model.specs.Bench.{case_a, chain, no_commands}

-- Case A: the last walk reaches 0 and 1. Were it none, demand 3 would compare no command; were it the first walk, 2 and 3 too.
reached_last : answer (λ p. tabulate (search (plan_of p) 0).reached 0 6) (read case_a)
    ≡ given (true ∷ true ∷ false ∷ false ∷ false ∷ false ∷ [])
unfolding any first every exists or_else lowest found grow tabulate ordinary failing active resting has_practice lesser least hit hits
    try_order choice lands next marked without_marks ends before at_once in_rounds search answer ◌>>=◌ need ◌>>◌ field head state entries
    rising command commands states read state_of plan_of
reached_last = refl

-- Ordinary states with commands, not all states (6, 3 and 1): 4 of case A, 2 of the chain, whose 2 rounds meet the bound, and none where
-- the only state is stuck.
active_count : map (λ file. answer (λ p. actives (plan_of p)) (read file)) (case_a ∷ chain ∷ no_commands ∷ [])
    ≡ given 4 ∷ given 2 ∷ given 0 ∷ []
unfolding how_many ordinary active answer ◌>>=◌ need ◌>>◌ field head state entries rising command commands states read state_of plan_of actives
active_count = refl
