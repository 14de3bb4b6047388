-- A good tree describes a valid plan within the limits, and so do sound tables.
use mathlib.Core.Path.{◌≡◌}
use mathlib.Core.Bool.{true}
use mathlib.Core.Logic.{⊎_elim}
use mathlib.Core.List.{List}
use Prim.Native.Nat.{ℕ, ◌<◌, ◌≤◌}
use native.Mathlib.Nat.{le_trans}
use native.Mathlib.Omega.{arith}
use lib.Dec.{eqb}
use lib.ListN.{length}
use borrow.Author.Tests.{eqb-true}
use Rattle.laws.proofs.Tests.{and_both, or_cases}
use Rattle.laws.proofs.All.{all_member}
use Rattle.laws.proofs.Parts.{part_below}
use Rattle.model.specs.Plan.{Valid}
use Rattle.model.specs.Refusal.{given}
use Rattle.model.specs.File.{max_states, max_commands, State, Tree, read}
use Rattle.model.specs.Tables.{Tables}
use Rattle.model.specs.SoundTest.{sound}
use Rattle.model.specs.Held.{tree_of, state_of, plan_of, plan_in}
use Rattle.model.proofs.Good.{GoodState, Good, good_state, good_command, rising_below, read_good}
use Rattle.model.proofs.Layouts.{by_state_lem}
use Rattle.model.proofs.GoodTables.{sound_good}

-- a state with commands is ordinary
good_ordinary : {n : ℕ} (q : State) (c : ℕ) → GoodState n q → c < length q.commands → q.kind ≡ 0
good_ordinary q c f h =
    ⊎_elim (eqb-true _ _) (λ z. omega (arith, eqb-true (length q.commands) 0 z))
    (or_cases (eqb q.kind 0) (eqb (length q.commands) 0) (and_both _ _ f.works).0)

module _ (p : Tree) (g : Good p) where
  pub good_valid : Valid (plan_of p)
  unfolding plan_of
  good_valid = record {
    kinds = λ s h. (good_state p g s h).low;
    idle = λ s c h l. good_ordinary (state_of p s) c (good_state p g s h) l;
    inside = λ s c x h l m. all_member (rising_below _ 0 _ (good_command p g s c h l).rise) m;
  }

  pub few_states : (plan_of p).states ≤ max_states
  unfolding plan_of
  few_states = g.few

  pub few_commands : (s : ℕ) → s < (plan_of p).states → (plan_of p).commands s ≤ max_commands
  unfolding plan_of state_of
  few_commands s h = le_trans (part_below by_state_lem p.states s _ h) g.few_commands

pub sound_valid : (T : Tables) → sound T ≡ true → Valid (plan_in T)
unfolding plan_in
sound_valid T e = good_valid (tree_of T) (sound_good T e)

-- every plan that a file gives is valid
pub file_valid : (file : List ℕ) (p : Tree) → read file ≡ given p → Valid (plan_of p)
file_valid file p e = good_valid p (read_good file p e)
