-- The practice of case A and of a plan with several lost outcomes, computed.
use mathlib.Core.Path.{◌≡◌, refl}
use mathlib.Core.Bool.{true, false}
use mathlib.Core.List.{[], ◌∷◌}
use mathlib.Core.Option.{none, some}
use lib.Dec.{ltb}
use Rattle.laws.specs.Sets.{lesser, least, every, or_else, lowest, found, grow}
use Rattle.laws.specs.Lists.{tabulate}
use Rattle.laws.specs.Entry.{FFFF}
use Rattle.model.specs.Plan.{ordinary, failing, active, has_practice}
use Rattle.model.specs.Verdict.{hit, hits, forced, rank, lost, safe}
use Rattle.model.specs.Practice.{followed, practice_hit, practice_hits, practice_fails, bug, fault, fault_outcome}
use Rattle.model.specs.Refusal.{given, answer, ◌>>=◌, need, ◌>>◌}
use Rattle.model.specs.File.{field, head, state, entries, rising, command, commands, states, read}
use Rattle.model.specs.Held.{state_of, plan_of}
use Rattle.model.specs.Bench.{case_a}
use Rattle.model.proofs.CasePlans.{acting, rest, failed, planned}

-- 0 and 1 are bugs, and of them only 0 is a fault: 1 is safe and its practice leads to 0 and 1, but by way of 0 into failure.
-- The practice also fails from 3 and 4, which are lost.
case_a_bugs : answer (λ p. tabulate (bug (plan_of p)) 0 6 ∷ tabulate (fault (plan_of p)) 0 6 ∷ tabulate (practice_fails (plan_of p)) 0 6 ∷ [])
    (read case_a)
    ≡ given ((true ∷ true ∷ false ∷ false ∷ false ∷ false ∷ []) ∷ (true ∷ false ∷ false ∷ false ∷ false ∷ false ∷ [])
    ∷ (true ∷ true ∷ false ∷ true ∷ true ∷ false ∷ []) ∷ [])
unfolding every or_else lowest found grow tabulate ordinary failing active has_practice lesser least hit hits forced rank lost safe
    practice_hit practice_hits practice_fails bug fault_outcome fault answer ◌>>=◌ need ◌>>◌ field head state entries rising command commands
    states read state_of plan_of
case_a_bugs = refl

-- at its one fault state 3 is named: outcome 2 of the practice is safe
case_a_named : answer (λ p. tabulate (fault_outcome (plan_of p)) 0 6) (read case_a) ≡ given (some 3 ∷ none ∷ none ∷ none ∷ none ∷ none ∷ [])
unfolding every or_else lowest found grow tabulate ordinary failing active has_practice lesser least hit hits forced rank lost safe
    practice_hit practice_hits fault_outcome fault answer ◌>>=◌ need ◌>>◌ field head state entries rising command commands states read state_of
    plan_of
case_a_named = refl

-- State 0 is held by command 0; its practice, command 1, may land on 1, which is at rest, and on 3 and 4, which fail: 3 is named. States 1
-- to 5 are no faults: 2 has no practice, and the practice of 5 has the lost outcome 4, but 5 is lost.
several_lost : tabulate
    (fault_outcome (planned (acting 1 ((1 ∷ []) ∷ (1 ∷ 3 ∷ 4 ∷ []) ∷ []) ∷ rest ∷ acting FFFF ((1 ∷ []) ∷ (3 ∷ []) ∷ []) ∷ failed ∷ failed
    ∷ acting 0 ((4 ∷ []) ∷ []) ∷ []))) 0 6
    ≡ some 3 ∷ none ∷ none ∷ none ∷ none ∷ none ∷ []
unfolding every or_else lowest found grow tabulate ordinary failing active has_practice lesser least hit hits forced rank lost safe
    practice_hit practice_hits fault_outcome fault state_of plan_of
several_lost = refl

-- the least, wherever it stands
least_anywhere : least (ltb 1) (7 ∷ 0 ∷ 5 ∷ 2 ∷ 1 ∷ 6 ∷ []) ≡ some 2
unfolding lesser least
least_anywhere = refl

-- the practice as a rule: none where the file has FFFF, not command 65,535
case_a_followed : answer (λ p. tabulate (followed (plan_of p)) 0 6) (read case_a)
    ≡ given (some 1 ∷ some 0 ∷ none ∷ some 0 ∷ none ∷ none ∷ [])
unfolding tabulate has_practice followed answer ◌>>=◌ need ◌>>◌ field head state entries rising command commands states read state_of plan_of
case_a_followed = refl
