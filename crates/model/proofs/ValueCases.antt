-- Source 000's value equation, computed.
use mathlib.Core.Path.{◌≡◌, refl}
use mathlib.Core.List.{[], ◌∷◌, map}
use Prim.Native.Nat.{◌+◌}
use Rattle.laws.specs.Sets.{lesser, least, every, or_else, lowest, found, grow}
use Rattle.laws.specs.Lists.{tabulate}
use Rattle.laws.specs.Entry.{FFFF}
use Rattle.model.specs.Plan.{Plan, ordinary, failing, active}
use Rattle.model.specs.Verdict.{hit, hits, forced, rank, lost}
use Rattle.model.specs.Value.{successors, maximum, minimum, backup, value}
use Rattle.model.specs.Held.{state_of, plan_of}
use Rattle.model.proofs.CasePlans.{acting, rest, failed, planned}

-- 0 with {0,3} and {1,2}; 1 rest; 2 failing; 3 without commands; 4 with {3} and {1,4}
abbrev five : Plan
five =
    planned (
    acting FFFF ((0 ∷ 3 ∷ []) ∷ (1 ∷ 2 ∷ []) ∷ []) ∷ rest ∷ failed ∷ acting FFFF [] ∷ acting FFFF ((3 ∷ []) ∷ (1 ∷ 4 ∷ []) ∷ []) ∷ []
    )

-- With V(s) = 10 + s: at 0 the least of the largest, min (max 10 13) (max 11 12) (the largest of the least is 11, the least of all 10,
-- the largest 13); at 1 the state's own, by the self-loop, not a least of nothing; at 2, which fails, and at 3, which is stuck, 1.
backups : map (backup five (λ s. 10 + s)) (0 ∷ 1 ∷ 2 ∷ 3 ∷ 4 ∷ []) ≡ 12 ∷ 11 ∷ 1 ∷ 1 ∷ 13 ∷ []
unfolding tabulate ordinary failing active state_of plan_of successors maximum minimum backup
backups = refl

-- 1 is lost, 0 safe
values : map (value five) (0 ∷ 1 ∷ 2 ∷ 3 ∷ 4 ∷ []) ≡ 1 ∷ 0 ∷ 1 ∷ 1 ∷ 0 ∷ []
unfolding every or_else lowest found grow ordinary failing active lesser least hit hits forced rank lost state_of plan_of value
values = refl
