-- The states of the trimmed plan from new number i on: what a loop over the kept states has still before it.
use mathlib.Core.Path.{◌≡◌, sym, ap, ap₂, ◌∙◌}
use mathlib.Core.List.{List, [], ◌∷◌}
use Prim.Native.Nat.{ℕ, ◌+◌, ◌<◌, ◌≤◌}
use native.Mathlib.Numerals.{add-one}
use lib.ListN.{length, drop, drop_of_length-le}
use lib.Seq.{drop-cons}
use Rattle.laws.specs.Lists.{joined}
use Rattle.model.specs.File.{State, Tree}
use Rattle.model.specs.Held.{state_of}
use Rattle.model.specs.Trim.{new_number, trim_state, trim_tree}
use Rattle.model.proofs.TrimmedPlan.{old_number, same_commands, same_outcomes, trim_state_lem}

-- the trimmed state i
abbrev pub trimmed_at : Tree → ℕ → State
trimmed_at p i = trim_state (new_number p) (state_of p (old_number p i))

abbrev pub left_from : Tree → ℕ → List State
left_from p i = drop i (trim_tree p).states

module _ (p : Tree) (i : ℕ) where
  pub left_next : i < length (trim_tree p).states → left_from p i ≡ trimmed_at p i ∷ left_from p (i + 1)
  unfolding state_of
  left_next l =
      drop-cons (trim_tree p).states i _ l ∙ ap₂ (λ (s : State) (ss : List State). s ∷ ss) (trim_state_lem p i l)
      (ap (λ (j : ℕ). drop j (trim_tree p).states) (sym (add-one i)))

  pub left_none : length (trim_tree p).states ≤ i → left_from p i ≡ []
  left_none l = drop_of_length-le (trim_tree p).states l

  -- it has as many commands and outcomes as the old one
  pub trimmed_commands : length (trimmed_at p i).commands ≡ length (state_of p (old_number p i)).commands
  trimmed_commands = same_commands (new_number p) (state_of p (old_number p i))

  pub trimmed_outcomes : length (joined (trimmed_at p i).commands) ≡ length (joined (state_of p (old_number p i)).commands)
  trimmed_outcomes = same_outcomes (new_number p) (state_of p (old_number p i))
