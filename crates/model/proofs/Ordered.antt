-- Tables that are long enough and whose firsts rise from 0 up to their counts.
use mathlib.Core.Path.{◌≡◌, sym}
use mathlib.Core.List.{List}
use Prim.Native.Nat.{ℕ, suc, ◌<◌, ◌≤◌}
use lib.ListN.{length}
use lib.Seq.{slice}
use Rattle.laws.proofs.Lists.{slice_tabulate}
use Rattle.laws.proofs.Parts.{Rises}
use Rattle.model.specs.Tables.{Tables, lists_in}
use Rattle.model.specs.Places.{first_command, command_count, outcomes_at}
use Rattle.model.specs.Held.{state_at}
use Rattle.model.proofs.ListTable.{OrderedLists, lists_held}

pub record Ordered (T : Tables) : Type 0 where
  pub rows : T.size.n ≤ length T.rows
  pub commands : Rises (first_command T) T.size.n T.size.m
  pub lists : OrderedLists (lists_in T)

-- all commands that tables hold
abbrev pub commands_in : Tables → List (List ℕ)
commands_in T = lists_held (lists_in T)

-- a state's commands are cut out of all
pub commands_cut : (T : Tables) → Rises (first_command T) T.size.n T.size.m → (s : ℕ) → s < T.size.n
    → (state_at T s).commands ≡ slice (first_command T s) (first_command T (suc s)) (commands_in T)
unfolding state_at command_count
commands_cut T r s h = sym
    (slice_tabulate (outcomes_at T) (first_command T s) (first_command T (suc s)) T.size.m (r.step s h) (r.below s h))
