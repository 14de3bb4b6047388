-- The plan that tables hold, read off by index.
use mathlib.Core.Path.{◌≡◌, refl, ap, ◌∙◌}
use mathlib.Core.List.{[]}
use Prim.Native.Nat.{ℕ, ◌+◌, ◌<◌}
use lib.ListN.{length, get_or}
use Rattle.laws.proofs.Lists.{length_tabulate, get_or_tabulate, tabulate_at}
use Rattle.model.specs.File.{State}
use Rattle.model.specs.Tables.{Tables}
use Rattle.model.specs.Places.{row_at, first_command, command_count, outcomes_at}
use Rattle.model.specs.Held.{state_at, tree_of, state_of, plan_of, plan_in}

module _ (T : Tables) where
  pub tree_count : length (tree_of T).states ≡ T.size.n
  unfolding tree_of
  tree_count = length_tabulate (state_at T) 0 T.size.n

  pub states_held : (plan_in T).states ≡ T.size.n
  unfolding plan_in plan_of
  states_held = tree_count

  pub start_held : (plan_in T).start ≡ T.size.start
  unfolding plan_in plan_of tree_of
  start_held = refl

  module _ (s : ℕ) (h : s < T.size.n) where
    pub state_held : state_of (tree_of T) s ≡ state_at T s
    unfolding state_of tree_of
    state_held = tabulate_at (state_at T) T.size.n s _ h

    pub kind_held : (plan_in T).kind s ≡ (row_at T s).kind
    unfolding plan_in plan_of state_at
    kind_held = ap (λ (q : State). q.kind) state_held

    pub practice_held : (plan_in T).practice s ≡ (row_at T s).practice
    unfolding plan_in plan_of state_at
    practice_held = ap (λ (q : State). q.practice) state_held

    pub commands_held : (plan_in T).commands s ≡ command_count T s
    unfolding plan_in plan_of state_at
    commands_held = ap (λ (q : State). length q.commands) state_held
        ∙ length_tabulate (outcomes_at T) (first_command T s) (command_count T s)

    pub outcomes_held : (c : ℕ) → c < command_count T s → (plan_in T).outcomes s c ≡ outcomes_at T (first_command T s + c)
    unfolding plan_in plan_of state_at
    outcomes_held c l =
        ap (λ (q : State). get_or q.commands c []) state_held ∙ get_or_tabulate (outcomes_at T) (first_command T s) (command_count T s) c [] l
