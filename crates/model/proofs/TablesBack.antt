-- Tables whose firsts rise are the same as the tables of the tree that they hold.
use mathlib.Core.Path.{◌≡◌, sym, ap, ◌∙◌}
use mathlib.Core.Bool.{true}
use mathlib.Core.List.{List}
use Prim.Native.Nat.{ℕ, ◌<◌}
use native.Mathlib.Nat.{le_refl, le_of_eq}
use lib.ListN.{length, get_or}
use lib.Seq.{take_all}
use Rattle.laws.specs.Lists.{joined}
use Rattle.laws.proofs.Lists.{length_tabulate, tabulate_at}
use Rattle.laws.proofs.Parts.{Cut, rises_up, all_cut, heads_cut}
use Rattle.model.specs.File.{State}
use Rattle.model.specs.Tables.{Tables, Same, lists_in, all_commands, row_for, tables_of}
use Rattle.model.specs.Places.{row_at, first_command, outcomes_at}
use Rattle.model.specs.Held.{state_at, tree_of}
use Rattle.model.specs.SoundTest.{sound}
use Rattle.model.proofs.Layouts.{by_state, by_state_lem}
use Rattle.model.proofs.ListTable.{count_held, end_held, lists_back}
use Rattle.model.proofs.Ordered.{Ordered, commands_in, commands_cut}
use Rattle.model.proofs.HeldPlan.{tree_count}
use Rattle.model.proofs.SoundFacts.{sound_facts, fits_ordered}
use Rattle.model.proofs.Firsts.{command_entry_lem, command_end}

module _ (T : Tables) (o : Ordered T) where
  -- the states' commands are cut out of all commands
  states_cut : Cut by_state (tree_of T).states (state_at T 0) T.size.n (first_command T) (commands_in T)
  unfolding tree_of
  states_cut = record {
    count = tree_count T;
    rise = rises_up (le_of_eq (sym (length_tabulate (outcomes_at T) 0 T.size.m))) o.commands;
    cut = λ s h. ap (λ (q : State). q.commands) (tabulate_at (state_at T) T.size.n s _ h) ∙ commands_cut T o.commands s h;
  }

  -- all commands of the tree held
  pub all_commands_lem : all_commands (tree_of T).states ≡ commands_in T
  all_commands_lem =
      all_cut by_state_lem states_cut
      ∙ rw (command_end T T.size.n (le_refl _)) (take_all _ _ (le_of_eq (length_tabulate (outcomes_at T) 0 T.size.m)))

  row_back : (s : ℕ) → s < T.size.n → row_at T s ≡ by_state.head (first_command T s) (get_or (tree_of T).states s (state_at T 0))
  unfolding state_at tree_of
  row_back s h =
      (λ i. row_for (sym (command_entry_lem T s h) i) (state_at T s))
      ∙ ap (by_state.head (first_command T s)) (sym (tabulate_at (state_at T) T.size.n s _ h))

  size_back : T.size ≡ (tables_of (tree_of T)).size
  unfolding tables_of tree_of
  size_back = λ i. record {
    n = sym states_cut.count i;
    m = sym (ap length all_commands_lem ∙ count_held (lists_in T) o.lists) i;
    t = sym (ap (λ (cs : List (List ℕ)). length (joined cs)) all_commands_lem ∙ end_held (lists_in T) o.lists) i;
    start = T.size.start;
  }

  pub tables_same : Same T (tables_of (tree_of T))
  unfolding tables_of row_at
  tables_same = record {
    size = size_back;
    rows = heads_cut by_state_lem states_cut T.rows _ o.rows row_back;
    lists = rw all_commands_lem (lists_back (lists_in T) o.lists);
  }

pub tables_back : (T : Tables) → sound T ≡ true → Same T (tables_of (tree_of T))
tables_back T e = tables_same T (fits_ordered ((sound_facts T).0 e))
