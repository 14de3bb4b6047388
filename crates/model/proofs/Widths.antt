-- What deciding and the search answer fits in 16 bits (rule T4).
use mathlib.Core.Path.{◌≡◌, refl, sym, ◌∙◌}
use mathlib.Core.Bool.{Bool, true, false, cond}
use mathlib.Core.Option.{Option, none, some}
use Prim.Native.Nat.{ℕ, ◌+◌, ◌<◌}
use native.Mathlib.Nat.{zero-add}
use native.Mathlib.Omega.{arith}
use Rattle.laws.specs.Sets.{how_many}
use Rattle.laws.specs.Lists.{tabulate, joined}
use Rattle.laws.specs.Entry.{entry}
use Rattle.laws.proofs.Sets.{many_bound}
use Rattle.laws.proofs.All.{All, none, more, all_tabulate}
use Rattle.model.specs.Plan.{Plan, Valid, active}
use Rattle.model.specs.Verdict.{rank, lost}
use Rattle.model.specs.Command.{chosen}
use Rattle.model.specs.Practice.{practice_fails, fault, mark, tally_row, tally}
use Rattle.model.specs.Search.{search}
use Rattle.model.specs.Calls.{rank_table, command_table, mark_table}
use Rattle.model.specs.Boundary.{tally_entries}
use Rattle.model.proofs.StateKinds.{bound_is}
use Rattle.model.proofs.Choices.{choice_some}
use Rattle.model.proofs.Layers.{rank_bound, chosen_choice}
use Rattle.model.proofs.Searching.{search_answers}

-- fits 16 bits
abbrev pub Fits : ℕ → Type 0
Fits e = e < 65536

-- an entry for a number that is small, or for none
entry_fits : (o : Option ℕ) → ((i : ℕ) → o ≡ some i → i < 65536) → Fits (entry o)
unfolding entry
entry_fits none h = omega arith
entry_fits (some i) h = h i refl

-- the entries of a table that is made by a rule
table_fits : (f : ℕ → ℕ) (n : ℕ) → ((s : ℕ) → s < n → Fits (f s)) → All Fits (tabulate f 0 n)
table_fits f n h = all_tabulate f 0 n (λ s l. rw (zero-add s) (h s l))

module _ (P : Plan) (S : Valid P) (few : P.states < 65536) (short : (s : ℕ) → s < P.states → P.commands s < 65536) where
  pub ranks_fit : All Fits (rank_table P)
  unfolding rank_table
  ranks_fit = table_fits (λ s. entry (rank P s)) P.states (λ s l. entry_fits (rank P s) (λ r e. omega (arith, rank_bound P s r e)))

  pub commands_fit : All Fits (command_table P)
  unfolding command_table
  commands_fit =
      table_fits (λ s. entry (chosen P s)) P.states (λ s l.
      entry_fits (chosen P s) (λ c e. omega (arith, (choice_some P (lost P) s c (sym (chosen_choice P S s l) ∙ e)).1, short s l)))

  pub marks_fit : All Fits (mark_table P)
  unfolding mark_table mark
  marks_fit = table_fits (mark P) P.states (λ s l. small (practice_fails P s) (fault P s))
    where
      small : (a b : Bool) → cond a 1 0 + cond b 2 0 < 65536
      small true true = omega arith
      small true false = omega arith
      small false true = omega arith
      small false false = omega arith

  count_fits : (f : ℕ → Bool) → Fits (how_many f P.states)
  count_fits f = omega (arith, many_bound f P.states)

  pub tally_fits : All Fits (tally_entries P)
  unfolding tally_entries tally tally_row joined
  tally_fits = more (count_fits _)
      (more (count_fits _) (more (count_fits _) (more (count_fits _) (more (count_fits _) (more (count_fits _) none)))))

  pub rounds_fit : (a : ℕ) → a < P.states → Fits (search P a).rounds
  rounds_fit a l = omega (arith, (search_answers P S a l).few, bound_is P, many_bound (active P) P.states)
