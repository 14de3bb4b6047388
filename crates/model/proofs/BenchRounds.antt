-- Plans whose rounds tell when states become known: those that a round marks, when it is over, and no others (rule S9; the wrong turn is
-- rule B19).
use mathlib.Core.Path.{◌≡◌, refl}
use mathlib.Core.Bool.{true, false}
use mathlib.Core.List.{[], ◌∷◌, map}
use Rattle.laws.specs.Sets.{any, first, lesser, least, every, exists, or_else, lowest, found, grow}
use Rattle.laws.specs.Lists.{tabulate}
use Rattle.laws.specs.Entry.{FFFF}
use Rattle.model.specs.Plan.{Plan, ordinary, failing, active, resting, has_practice}
use Rattle.model.specs.Verdict.{hit, hits}
use Rattle.model.specs.Command.{try_order, choice}
use Rattle.model.specs.Search.{lands, next, marked, known, without_marks, ends, before, at_once, in_rounds, search}
use Rattle.model.specs.Held.{state_of, plan_of}
use Rattle.model.proofs.CasePlans.{acting, failed, planned}

-- 0 with {1,2,3} and {1,3}; 1 with {2}; 2 with {4}; 3 with {2}; 4 failing.
-- Round 1 walks 0, 1, 2 and 3, and marks 2. Round 2 walks 0, 1 and 3, and marks 1 and 3. Round 3 marks 0.
-- Were 2 known as soon as it is marked, then 1 or 3, whichever is walked after it, would be marked in round 1, and 0 in round 2.
abbrev late : Plan
late = planned (acting FFFF ((1 ∷ 2 ∷ 3 ∷ []) ∷ (1 ∷ 3 ∷ []) ∷ []) ∷ acting FFFF ((2 ∷ []) ∷ []) ∷ acting FFFF ((4 ∷ []) ∷ [])
    ∷ acting FFFF ((2 ∷ []) ∷ []) ∷ failed ∷ [])

pub marks_at_the_end : (search late 0).rounds ≡ 3
unfolding any first every exists or_else lowest found grow tabulate ordinary failing active resting has_practice lesser least hit hits
    try_order choice lands next marked without_marks ends before at_once in_rounds search state_of plan_of
marks_at_the_end = refl

-- the sets known after 0, 1, 2 and 3 rounds
pub known_after_rounds : map (λ j. tabulate (known late 0 j) 0 5) (0 ∷ 1 ∷ 2 ∷ 3 ∷ [])
    ≡ (false ∷ false ∷ false ∷ false ∷ true ∷ []) ∷ (false ∷ false ∷ true ∷ false ∷ true ∷ []) ∷ (false ∷ true ∷ true ∷ true ∷ true ∷ [])
    ∷ (true ∷ true ∷ true ∷ true ∷ true ∷ []) ∷ []
unfolding any first exists found grow tabulate ordinary failing active has_practice lesser least hit hits try_order choice lands next marked
    state_of plan_of
known_after_rounds = refl

-- 0 with {1} and {2}; 1 with {4}; 2 with {3}; 3 with {4}; 4 failing. The rounds mark 1, then 3, then 2, then 0: round 1 does not walk 3.
-- Were every state known that the known ones force, walked or not, there would be three rounds.
abbrev aside : Plan
aside = planned (acting FFFF ((1 ∷ []) ∷ (2 ∷ []) ∷ []) ∷ acting FFFF ((4 ∷ []) ∷ []) ∷ acting FFFF ((3 ∷ []) ∷ [])
    ∷ acting FFFF ((4 ∷ []) ∷ []) ∷ failed ∷ [])

pub only_walked : (search aside 0).rounds ≡ 4
unfolding any first every exists or_else lowest found grow tabulate ordinary failing active resting has_practice lesser least hit hits
    try_order choice lands next marked without_marks ends before at_once in_rounds search state_of plan_of
only_walked = refl
