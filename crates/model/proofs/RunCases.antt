-- Runs and rules, on a plan of three states: which sequences of moves are runs, and which runs are under a rule.
use mathlib.Core.Path.{◌≡◌, refl}
use mathlib.Core.List.Memᴰ
use mathlib.Core.List.{[], ◌∷◌, map}
use mathlib.Core.Logic.{⊎_elim}
use mathlib.Core.Option.{Option, none, some}
use Prim.Native.Nat.{ℕ}
use native.Mathlib.Omega.{arith}
use Rattle.laws.specs.Entry.{FFFF, from_entry}
use Rattle.laws.proofs.Tests.{clash}
use Rattle.model.specs.Plan.{Plan, ordinary, failing}
use Rattle.model.specs.Run.{Move, Run, no_moves, ◌▸◌, present, moves, CanMove, IsRun, RunFails, RunHolds}
use Rattle.model.specs.Rule.{Rule, Under}
use Rattle.model.specs.Demand3.{read_entry}
use Rattle.model.specs.Held.{state_of, plan_of}
use Rattle.model.proofs.CasePlans.{acting, rest, failed, planned}

-- 0 with {0,1} and {2}; 1 failing; 2 rest
abbrev three : Plan
three = planned (acting FFFF ((0 ∷ 1 ∷ []) ∷ (2 ∷ []) ∷ []) ∷ failed ∷ rest ∷ [])

abbrev move : ℕ → ℕ → Move
move c x = record { command = c; landing = x }

-- from 0 to 0 and to rest; from 0 to 0 and into failure
abbrev resting : Run
resting = no_moves ▸ move 0 0 ▸ move 1 2

abbrev falling : Run
falling = no_moves ▸ move 0 0 ▸ move 0 1

-- the last landing, not the first; each move counted once
ends_of_runs : present 0 resting ∷ present 0 falling ∷ present 5 no_moves ∷ moves resting ∷ moves no_moves ∷ [] ≡ 2 ∷ 1 ∷ 5 ∷ 2 ∷ 0 ∷ []
unfolding present
ends_of_runs = refl

back : CanMove three 0 (move 0 0)
unfolding ordinary state_of plan_of
back = record { leaves = refl; issued = omega arith; landed = Memᴰ.head refl }

resting_is_run : IsRun three 0 resting × RunHolds three 0 resting
unfolding ordinary failing present state_of plan_of
resting_is_run = (((tt, back), record { leaves = refl; issued = omega arith; landed = Memᴰ.head refl }), refl)

falling_is_run : IsRun three 0 falling × RunFails three 0 falling
unfolding ordinary failing present state_of plan_of
falling_is_run = (((tt, back), record { leaves = refl; issued = omega arith; landed = Memᴰ.tail (Memᴰ.head refl) }), refl)

-- not moves: out of a failing state; command 2 of 0; landing on 1 by command 1
no_move_from_failure : (m : Move) → CanMove three 1 m → ⊥
unfolding ordinary state_of plan_of
no_move_from_failure m c = clash c.leaves refl

no_third_command : (x : ℕ) → CanMove three 0 (move 2 x) → ⊥
unfolding state_of plan_of
no_third_command x c = omega (arith, c.issued)

no_such_landing : CanMove three 0 (move 1 1) → ⊥
unfolding state_of plan_of
no_such_landing c = ⊎_elim (λ q. omega (arith, q)) Memᴰ.not-nil (Memᴰ.cases_cons c.landed)

-- a rule that remembers: command 0 first, then 1
abbrev turning : Rule
turning no_moves = some 0
turning (w ▸ m) = some 1

-- It is asked before each move, of the moves so far: the run that falls issues command 0 twice. At 0 it names both commands, in turn.
resting_under : Under turning resting
resting_under = ((tt, refl), refl)

falling_not_under : Under turning falling → ⊥
falling_not_under u = let q : ◌≡◌ {A = Option ℕ} (some 1) (some 0) = u.1 in let e : ◌≡◌ {A = ℕ} 1 0 = cc in omega (arith, e)

-- rule R10: an entry, FFFF, and a place past the table
entries_read : map (read_entry (0 ∷ FFFF ∷ [])) (0 ∷ 1 ∷ 2 ∷ []) ≡ some 0 ∷ none ∷ none ∷ []
unfolding from_entry read_entry
entries_read = refl
