-- A row fits if and only if the state read off is good.
use mathlib.Core.Path.{◌≡◌}
use Prim.Native.Nat.{ℕ, ◌+◌, ◌<◌}
use native.Mathlib.Omega.{arith}
use lib.ListN.{length}
use Rattle.laws.proofs.All.{all_tabulate}
use Rattle.laws.proofs.Lists.{length_tabulate}
use Rattle.model.specs.Tables.{Tables, lists_in}
use Rattle.model.specs.Places.{first_command, command_count, outcomes_at}
use Rattle.model.specs.Held.{state_at}
use Rattle.model.proofs.Ordered.{Ordered}
use Rattle.model.proofs.SoundFacts.{RowFits, Fits}
use Rattle.model.proofs.ListTable.{list_fine}
use Rattle.model.proofs.Good.{GoodState}

module _ (T : Tables) where
  count_commands : (s : ℕ) → length (state_at T s).commands ≡ command_count T s
  unfolding state_at
  count_commands s = length_tabulate (outcomes_at T) (first_command T s) (command_count T s)

module _ (T : Tables) (o : Ordered T) where
  module _ (s : ℕ) (h : s < T.size.n) where
    pub state_fine : Fits T → GoodState T.size.n (state_at T s)
    unfolding state_at command_count
    state_fine f =
        let r = f.rows s h in
        record {
          low = r.kinds;
          works = rw (count_commands T s) r.not_idle_lem;
          good = all_tabulate (outcomes_at T) (first_command T s) (command_count T s) (λ i l.
              let k : first_command T s + i < T.size.m = omega arith in
              list_fine (lists_in T) o.lists (first_command T s + i) k (f.lists.lists _ k) f.lists.entries);
        }

    pub fine_row : GoodState T.size.n (state_at T s) → RowFits T s
    unfolding state_at
    fine_row g = record {
      rises = o.commands.step s h;
      below = o.commands.below s h;
      kinds = g.low;
      not_idle_lem = rw (count_commands T s)
          at g.works;
    }
