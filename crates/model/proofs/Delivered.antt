-- Demand 3 over what the calls answer and leave in the tables that they are lent.
use mathlib.Core.Path.{◌≡◌, ap, subst, ◌∙◌}
use mathlib.Core.Bool.{Bool, true}
use mathlib.Core.List.{List}
use Prim.Native.Nat.{ℕ, ◌<◌}
use native.Mathlib.Omega.{arith}
use lib.ListN.{length, get_or}
use Rattle.laws.specs.Lists.{tabulate, overwrite}
use Rattle.laws.specs.Entry.{FFFF, entry, from_entry}
use Rattle.laws.proofs.Lists.{length_tabulate, tabulate_at, get_or_overwrite_below}
use Rattle.model.specs.Verdict.{rank}
use Rattle.model.specs.Command.{chosen}
use Rattle.model.specs.Practice.{tally}
use Rattle.model.specs.Search.{Result, search}
use Rattle.model.specs.Refusal.{given}
use Rattle.model.specs.Tables.{Tables}
use Rattle.model.specs.SoundTest.{sound}
use Rattle.model.specs.Held.{tree_of, plan_in}
use Rattle.model.specs.Calls.{left, rank_table, command_table, result_table, decide_call, search_call}
use Rattle.model.specs.Demand3.{read_entry, Demand3, DecidingDemand3, SearchDemand3}
use Rattle.model.proofs.Answers.{answer_inv}
use Rattle.model.proofs.GoodTables.{sound_good}
use Rattle.model.proofs.HeldPlan.{states_held}
use Rattle.model.proofs.Valid.{sound_valid, few_states, few_commands}
use Rattle.model.proofs.Answering.{deciding_iff, searching_iff}
use Rattle.model.proofs.Demands.{rank_entry_lem, chosen_entry, demand3}

-- an entry that was written
pub entry_written : (f : ℕ → ℕ) (n : ℕ) (table : List ℕ) (s default : ℕ) → s < n → get_or (overwrite (tabulate f 0 n) table) s default ≡ f s
entry_written f n table s default h =
    get_or_overwrite_below (tabulate f 0 n) table s default (rw (length_tabulate f 0 n) h) ∙ tabulate_at f n s default h

module _ (T : Tables) (sounds : sound T ≡ true) where
  few : (plan_in T).states < 65535
  unfolding plan_in
  few = omega (arith, few_states (tree_of T) (sound_good T sounds))

  fit : (s : ℕ) → s < (plan_in T).states → (plan_in T).commands s < 65535
  unfolding plan_in
  fit s l = omega (arith, few_commands (tree_of T) (sound_good T sounds) s l)

  -- ranks and chosen commands are read from their entries
  pub rank_of_entry : (s : ℕ) → from_entry (entry (rank (plan_in T) s)) ≡ rank (plan_in T) s
  rank_of_entry = rank_entry_lem (plan_in T) (sound_valid T sounds) few fit

  chosen_of_entry : (s : ℕ) → s < (plan_in T).states → from_entry (entry (chosen (plan_in T) s)) ≡ chosen (plan_in T) s
  chosen_of_entry = chosen_entry (plan_in T) (sound_valid T sounds) few fit

  -- the tables of ranks and commands of a sound plan, and the search's, whatever the tables held before
  of_tables : (ranks commands : List ℕ) (a : ℕ) → a < T.size.n → (table : List ℕ)
      → Demand3 (plan_in T) (overwrite (rank_table (plan_in T)) ranks) (overwrite (command_table (plan_in T)) commands) a
      (search (plan_in T) a).lost (search (plan_in T) a).rounds (overwrite (result_table T.size.n (search (plan_in T) a)) table)
  unfolding rank_table command_table result_table
  of_tables ranks commands a inside table =
      let n = states_held T in
      demand3 (plan_in T) (sound_valid T sounds) few fit
      _ _ _
      (λ s h. entry_written (λ t. entry (rank (plan_in T) t)) (plan_in T).states ranks s FFFF h)
      (λ s h. entry_written (λ t. entry (chosen (plan_in T) t)) (plan_in T).states commands s FFFF h)
      a (rw n inside)
      (λ s h. entry_written (λ t. entry ((search (plan_in T) a).command t)) T.size.n table s FFFF (rw n at h))

  pub tables_decided : (ranks commands : List ℕ)
      → DecidingDemand3 T (overwrite (rank_table (plan_in T)) ranks) (overwrite (command_table (plan_in T)) commands)
  unfolding left
  tables_decided ranks commands a table space verdict rounds e =
      let (R, found, q) = answer_inv (λ (x : Result). (x.lost, x.rounds)) _ (verdict, rounds) e in
      let S = (searching_iff T a (length table) (length space) R).0 found in
      rw found (subst (λ (v : Bool × ℕ). Demand3 (plan_in T) (overwrite (rank_table (plan_in T)) ranks)
      (overwrite (command_table (plan_in T)) commands) a v.0 v.1 (overwrite (result_table T.size.n R) table)) q
      (rw (← S.is) (of_tables ranks commands a S.inside table)))

  pub table_searched : (a : ℕ) → a < T.size.n → (table : List ℕ)
      → SearchDemand3 T a (search (plan_in T) a).lost (search (plan_in T) a).rounds
      (overwrite (result_table T.size.n (search (plan_in T) a)) table)
  unfolding left
  table_searched a inside table ranks commands marks scratch counts e =
      let (P, decided, _) = answer_inv tally _ counts e in
      let D = (deciding_iff T (length ranks) (length commands) (length marks) (length scratch) P).0 decided in
      rw (decided, ← D.is) (of_tables ranks commands a inside table)

-- the ranks and commands that deciding leaves are read as what they are
pub entries_read : (T : Tables) (ranks commands marks scratch : List ℕ) (counts : List (List ℕ))
    → let D = decide_call T ranks commands marks scratch in
    D.answers ≡ given counts → (s : ℕ) → s < T.size.n
    → (read_entry D.ranks s ≡ rank (plan_in T) s) × (read_entry D.commands s ≡ chosen (plan_in T) s)
unfolding left rank_table command_table read_entry
entries_read T ranks commands marks scratch counts e s inside =
    let (P, decided, _) = answer_inv tally _ counts e in
    let D = (deciding_iff T (length ranks) (length commands) (length marks) (length scratch) P).0 decided in
    let l : s < (plan_in T).states = rw (states_held T) inside in
    rw (decided, ← D.is) (
      ap from_entry (entry_written (λ t. entry (rank (plan_in T) t)) (plan_in T).states ranks s FFFF l) ∙ rank_of_entry T D.sounds s,
      ap from_entry (entry_written (λ t. entry (chosen (plan_in T) t)) (plan_in T).states commands s FFFF l)
          ∙ chosen_of_entry T D.sounds s l,
    )

-- of deciding's call, where it answers
pub decide_demand3 : (T : Tables) (ranks commands marks scratch : List ℕ) (counts : List (List ℕ))
    → (decide_call T ranks commands marks scratch).answers ≡ given counts
    → DecidingDemand3 T (decide_call T ranks commands marks scratch).ranks (decide_call T ranks commands marks scratch).commands
unfolding left
decide_demand3 T ranks commands marks scratch counts e =
    let (P, decided, _) = answer_inv tally _ counts e in
    let D = (deciding_iff T (length ranks) (length commands) (length marks) (length scratch) P).0 decided in
    rw (decided, ← D.is) (tables_decided T D.sounds ranks commands)

-- of the search's, where it answers
pub search_demand3 : (T : Tables) (a : ℕ) (table space : List ℕ) (verdict : Bool) (rounds : ℕ)
    → (search_call T a table space).answers ≡ given (verdict, rounds)
    → SearchDemand3 T a verdict rounds (search_call T a table space).commands
unfolding left
search_demand3 T a table space verdict rounds e =
    let (R, found, q) = answer_inv (λ (x : Result). (x.lost, x.rounds)) _ (verdict, rounds) e in
    let S = (searching_iff T a (length table) (length space) R).0 found in
    rw found (subst (λ (v : Bool × ℕ). SearchDemand3 T a v.0 v.1 (overwrite (result_table T.size.n R) table)) q
    (rw (← S.is) (table_searched T S.sounds a S.inside table)))
