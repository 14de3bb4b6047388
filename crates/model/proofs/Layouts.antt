-- The two layouts of a plan in memory: the commands of states with the rows, the outcomes of commands with the first outcomes.
use mathlib.Core.Path.{refl}
use mathlib.Core.List.{List}
use Prim.Native.Nat.{ℕ}
use Rattle.laws.specs.Lists.{joined}
use Rattle.laws.proofs.Parts.{Layout, Lays}
use Rattle.model.specs.File.{State}
use Rattle.model.specs.Tables.{Row, all_commands, row_for, rows_from, firsts_from}

abbrev pub by_state : Layout (List ℕ) State Row
by_state = record {
  part = λ s. s.commands;
  all = all_commands;
  head = row_for;
  heads = rows_from;
}

abbrev pub by_command : Layout ℕ (List ℕ) ℕ
by_command = record { part = λ c. c; all = joined; head = λ t c. t; heads = firsts_from }

pub by_state_lem : Lays by_state
unfolding all_commands rows_from
by_state_lem = record { all_nil = refl; all_cons = λ s ss. refl; heads_nil = λ m. refl; heads_cons = λ m s ss. refl }

pub by_command_lem : Lays by_command
unfolding joined firsts_from
by_command_lem = record { all_nil = refl; all_cons = λ c cs. refl; heads_nil = λ t. refl; heads_cons = λ t c cs. refl }
