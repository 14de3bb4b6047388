-- Tables pass the test of soundness if and only if their firsts rise and the tree that they hold is good.
use mathlib.Core.Path.{◌≡◌, sym, ap, subst}
use mathlib.Core.Bool.{true}
use native.Mathlib.Nat.{zero-add}
use native.Mathlib.Omega.{arith}
use lib.ListN.{length}
use Rattle.laws.specs.Lists.{joined}
use Rattle.laws.proofs.All.{All, all_at, all_tabulate}
use Rattle.laws.proofs.Lists.{tabulate_at}
use Rattle.model.specs.File.{Tree}
use Rattle.model.specs.Tables.{Size, Tables, Same, lists_in, all_commands, tables_of}
use Rattle.model.specs.SoundTest.{sound}
use Rattle.model.specs.Held.{state_at, tree_of}
use Rattle.model.proofs.Good.{GoodState, Good, good_commands}
use Rattle.model.proofs.ListTable.{lists_fit}
use Rattle.model.proofs.Ordered.{Ordered}
use Rattle.model.proofs.HeldPlan.{tree_count}
use Rattle.model.proofs.SoundFacts.{Fits, sound_facts, fits_ordered}
use Rattle.model.proofs.TablesBack.{tables_same, all_commands_lem}
use Rattle.model.proofs.SameTables.{held, held_ordered}
use Rattle.model.proofs.Fine.{state_fine, fine_row}

module _ (T : Tables) (o : Ordered T) where
  -- the counts of the tree held
  m_held : length (all_commands (tree_of T).states) ≡ T.size.m
  unfolding tables_of
  m_held = ap (λ (z : Size). z.m) (sym (tables_same T o).size)

  t_held : length (joined (all_commands (tree_of T).states)) ≡ T.size.t
  unfolding tables_of
  t_held = ap (λ (z : Size). z.t) (sym (tables_same T o).size)

pub fits_good : (T : Tables) → Fits T → Good (tree_of T)
unfolding tree_of
fits_good T f =
    let o = fits_ordered f in
    let n = tree_count T in
    record {
      some = rw n f.size.some;
      few = rw n f.size.few;
      inside = rw n f.size.starts;
      few_commands = rw (m_held T o) f.size.few_commands;
      few_outcomes = rw (t_held T o) f.size.few_outcomes;
      good = rw n (all_tabulate (state_at T) 0 T.size.n (λ s h. rw (zero-add s) (state_fine T o s h f)));
    }

pub good_fits : (T : Tables) → Ordered T → Good (tree_of T) → Fits T
unfolding tree_of
good_fits T o g =
    let n = tree_count T in
    let good : All (GoodState T.size.n) (tree_of T).states = rw n at g.good in
    record {
      size = record {
        some = omega (arith, n, g.some);
        few = omega (arith, n, g.few);
        few_commands = omega (arith, m_held T o, g.few_commands);
        few_outcomes = omega (arith, t_held T o, g.few_outcomes);
        starts = omega (arith, n, g.inside);
      };
      long = record { rows = o.rows; lists = o.lists.long };
      commands_start = o.commands.start;
      rows = λ s h. fine_row T o s h (rw (tabulate_at (state_at T) T.size.n s _ h) at (all_at good (state_at T 0) s (rw n h)));
      lists = lists_fit (lists_in T) o.lists (rw (all_commands_lem T o) at (good_commands good));
    }

pub sound_good : (T : Tables) → sound T ≡ true → Good (tree_of T)
sound_good T e = fits_good T ((sound_facts T).0 e)

pub good_sound : (T : Tables) (p : Tree) → Good p → Same T (tables_of p) → sound T ≡ true
good_sound T p g same = (sound_facts T).1 (good_fits T (held_ordered T p same) (subst Good (sym (held T p same)) g))
