-- The tables of a tree by index: a first is the length of what comes before, and the slices are the commands' own lists.
use mathlib.Core.Path.{◌≡◌, sym, ap, ap₂, ◌∙◌}
use Prim.Native.Nat.{ℕ, suc, ◌<◌}
use native.Mathlib.Nat.{zero-add, le_of_eq}
use lib.ListN.{length, take}
use lib.Seq.{slice}
use Rattle.laws.proofs.Lists.{tabulate_is}
use Rattle.laws.proofs.Parts.{rises_same, edge_rises, edge_told, piece, length_heads, get_or_heads}
use Rattle.model.specs.File.{state_from, Tree}
use Rattle.model.specs.Tables.{Row, all_commands, tables_of}
use Rattle.model.specs.Places.{row_at, first_command, command_count, field_for}
use Rattle.model.specs.Held.{state_at, tree_of, state_of}
use Rattle.model.proofs.Layouts.{by_state, by_state_lem}
use Rattle.model.proofs.ListTable.{of_ordered, of_held}
use Rattle.model.proofs.Ordered.{Ordered, commands_in, commands_cut}

module _ (p : Tree) where
  pub row_of : (s : ℕ) → s < length p.states → row_at (tables_of p) s
      ≡ by_state.head (length (all_commands (take s p.states))) (state_of p s)
  unfolding row_at tables_of state_of
  row_of s h = get_or_heads by_state_lem 0 p.states s _ _ h ∙ ap (λ (j : ℕ). by_state.head j (state_of p s)) (zero-add _)

  pub first_command_lem : (s : ℕ) → first_command (tables_of p) s ≡ length (all_commands (take s p.states))
  unfolding first_command tables_of
  first_command_lem s = edge_told by_state_lem p.states s _ (λ h. ap (λ (r : Row). r.first) (row_of s h))

  pub tree_ordered : Ordered (tables_of p)
  unfolding tables_of
  tree_ordered = record {
    rows = le_of_eq (sym (length_heads by_state_lem 0 p.states));
    commands = rises_same first_command_lem (edge_rises by_state_lem p.states (state_of p 0));
    lists = of_ordered (all_commands p.states);
  }

  tree_commands : commands_in (tables_of p) ≡ all_commands p.states
  unfolding tables_of
  tree_commands = of_held (all_commands p.states)

  commands_of_lem : (s : ℕ) → s < length p.states → (state_at (tables_of p) s).commands ≡ (state_of p s).commands
  unfolding state_of tables_of
  commands_of_lem s h =
      commands_cut (tables_of p) tree_ordered.commands s h
      ∙ ap (slice (first_command (tables_of p) s) (first_command (tables_of p) (suc s))) tree_commands
      ∙ ap₂ (λ (a b : ℕ). slice a b (all_commands p.states)) (first_command_lem s) (first_command_lem (suc s))
      ∙ piece by_state_lem p.states s _ h

  state_of_lem : (s : ℕ) → s < length p.states → state_at (tables_of p) s ≡ state_of p s
  unfolding state_at
  state_of_lem s h = λ i. state_from (field_for (row_of s h i) (command_count (tables_of p) s)) (commands_of_lem s h i)

  -- the tables of a tree hold it
  pub tree_back : tree_of (tables_of p) ≡ p
  unfolding tree_of tables_of state_of
  tree_back =
      let e : (tree_of (tables_of p)).states ≡ p.states = tabulate_is (state_at (tables_of p)) p.states _ state_of_lem in
      λ i. record { start = p.start; states = e i }
