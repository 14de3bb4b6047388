-- Tables that agree up to their counts hold the same tree, and tables that agree with a tree's hold that tree.
use mathlib.Core.Path.{◌≡◌, sym, ap, ap₂, ◌∙◌, subst}
use Prim.Native.Nat.{ℕ, suc, ◌<◌}
use native.Mathlib.Omega.{arith}
use lib.Seq.{slice}
use Rattle.laws.proofs.Lists.{tabulate_same, agree_get_or, agree_long}
use Rattle.laws.proofs.Parts.{Rises, rises_same}
use Rattle.model.specs.File.{state_from, Tree}
use Rattle.model.specs.Tables.{Size, Row, Tables, Same, lists_in, tables_of}
use Rattle.model.specs.Places.{row_at, first_command, command_count, field_for}
use Rattle.model.specs.Held.{state_at, tree_of}
use Rattle.model.proofs.ListTable.{entry_or_end, lists_ordered_same, lists_same}
use Rattle.model.proofs.Ordered.{Ordered, commands_in, commands_cut}
use Rattle.model.proofs.Prefixes.{tree_ordered, tree_back}

module _ (T U : Tables) (same : Same T U) where
  n_same : T.size.n ≡ U.size.n
  n_same = ap (λ (z : Size). z.n) same.size

  m_same : T.size.m ≡ U.size.m
  m_same = ap (λ (z : Size). z.m) same.size

  t_same : T.size.t ≡ U.size.t
  t_same = ap (λ (z : Size). z.t) same.size

  row_same : (s : ℕ) → s < T.size.n → row_at T s ≡ row_at U s
  unfolding row_at
  row_same s h = agree_get_or _ _ _ _ n_same same.rows s _ h

  first_command_same : (s : ℕ) → first_command T s ≡ first_command U s
  unfolding first_command
  first_command_same s = entry_or_end s _ _ _ _ _ _ n_same (λ h. ap (λ (r : Row). r.first) (row_same s h)) m_same

  module _ (o : Ordered U) where
    pub ordered_same : Ordered T
    ordered_same = record {
      rows = agree_long _ _ _ _ n_same same.rows o.rows;
      commands = subst (λ (z : Size). Rises (first_command T) z.n z.m) (sym same.size)
          (rises_same first_command_same o.commands);
      lists = lists_ordered_same (lists_in T) (lists_in U) m_same t_same same.lists o.lists;
    }

    commands_same : (s : ℕ) → s < T.size.n → (state_at T s).commands ≡ (state_at U s).commands
    commands_same s h =
        commands_cut T ordered_same.commands s h
        ∙ ap (slice (first_command T s) (first_command T (suc s))) (lists_same (lists_in T) (lists_in U) m_same t_same same.lists o.lists)
        ∙ ap₂ (λ (a b : ℕ). slice a b (commands_in U)) (first_command_same s) (first_command_same (suc s))
        ∙ sym (commands_cut U o.commands s (omega (arith, n_same)))

    state_same : (s : ℕ) → s < T.size.n → state_at T s ≡ state_at U s
    unfolding state_at
    state_same s h = λ i. state_from (field_for (row_same s h i) (command_count T s)) (commands_same s h i)

    pub tree_same : tree_of T ≡ tree_of U
    unfolding tree_of
    tree_same = λ i. record { start = (same.size i).start; states = tabulate_same _ _ _ _ n_same state_same i }

pub held : (T : Tables) (p : Tree) → Same T (tables_of p) → tree_of T ≡ p
held T p same = tree_same T (tables_of p) same (tree_ordered p) ∙ tree_back p

pub held_ordered : (T : Tables) (p : Tree) → Same T (tables_of p) → Ordered T
held_ordered T p same = ordered_same T (tables_of p) same (tree_ordered p)
