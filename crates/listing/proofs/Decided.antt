-- What deciding leaves of a sound plan: tables that hold what the lines of the states say, and the tally.
use mathlib.Core.Path.{◌≡◌, refl, sym, ap, ◌∙◌}
use mathlib.Core.Bool.{true}
use mathlib.Core.List.{List, [], ◌∷◌}
use Prim.Native.Nat.{ℕ, ◌<◌, ◌≤◌}
use native.Mathlib.Omega.{arith}
use lib.ListN.{length, get_or}
use Rattle.laws.specs.Entry.{entry}
use Rattle.laws.specs.Lists.{overwrite}
use Rattle.laws.proofs.Overwrites.{overwrite_at}
use Rattle.model.specs.Plan.{Plan}
use Rattle.model.specs.Verdict.{rank}
use Rattle.model.specs.Command.{chosen}
use Rattle.model.specs.Practice.{mark, tally, fault_outcome}
use Rattle.model.specs.Refusal.{given, answer}
use Rattle.model.specs.Tables.{Tables}
use Rattle.model.specs.Held.{tree_of, plan_in}
use Rattle.model.specs.SoundTest.{sound}
use Rattle.model.specs.Calls.{left, deciding, rank_table, command_table, mark_table}
use Rattle.model.proofs.Answering.{deciding_iff}
use Rattle.model.proofs.GoodTables.{sound_good}
use Rattle.model.proofs.HeldPlan.{states_held, kind_held}
use Rattle.model.proofs.Valid.{sound_valid, few_states, few_commands}
use Rattle.tables.specs.declared.spans.Span.{Span}
use Rattle.tables.specs.Spans.{span_at}
use Rattle.listing_text.specs.Listed.{Listed}
use Rattle.listing_text.proofs.StateLine.{listed_tables}
use Rattle.listing.specs.Holds.{Holds}
use Rattle.listing.proofs.Named.{states_few}

-- tables of these lengths hold every plan's entries
abbrev pub Long : ℕ → ℕ → ℕ → ℕ → Type 0
Long ranks commands marks scratch = (1024 ≤ ranks) × (1024 ≤ commands) × (1024 ≤ marks) × (1024 ≤ scratch)

module _ (T : Tables) (sounds : sound T ≡ true) where
  in_plan : {s : ℕ} → s < T.size.n → s < (plan_in T).states
  in_plan h = rw (states_held T) h

  -- the lengths of the tables lent to it
  module _ {R C M S : ℕ} (long : Long R C M S) where
    decides : deciding T R C M S ≡ given (plan_in T)
    decides = (deciding_iff T R C M S (plan_in T)).1 (record {
      sounds = sounds;
      long_ranks = omega (arith, states_few T sounds, long.0);
      long_commands = omega (arith, states_few T sounds, long.1);
      long_marks = omega (arith, states_few T sounds, long.2);
      long_scratch = omega (arith, states_few T sounds, long.3);
      is = refl;
    })

    pub tallies : answer tally (deciding T R C M S) ≡ given (tally (plan_in T))
    unfolding answer
    tallies = ap (answer tally) decides

    module _ (rs cs ms : List ℕ) {rs' cs' ms' : List ℕ} (ranks : rs' ≡ left rank_table (deciding T R C M S) rs)
        (commands : cs' ≡ left command_table (deciding T R C M S) cs) (marks : ms' ≡ left mark_table (deciding T R C M S) ms) where
      rank_left : (s : ℕ) → s < T.size.n → get_or rs' s 0 ≡ entry (rank (plan_in T) s)
      unfolding left rank_table
      rank_left s h = rw (ranks, decides) (overwrite_at _ (plan_in T).states rs s (in_plan h))

      command_left : (s : ℕ) → s < T.size.n → get_or cs' s 0 ≡ entry (chosen (plan_in T) s)
      unfolding left command_table
      command_left s h = rw (commands, decides) (overwrite_at _ (plan_in T).states cs s (in_plan h))

      mark_left : (s : ℕ) → s < T.size.n → get_or ms' s 0 ≡ mark (plan_in T) s
      unfolding left mark_table
      mark_left s h = rw (marks, decides) (overwrite_at (mark (plan_in T)) (plan_in T).states ms s (in_plan h))

      pub holds : 1024 ≤ length rs' → 1024 ≤ length cs' → 1024 ≤ length ms' → Holds T rs' cs' ms'
      holds r c m = record {
        long_ranks = omega (arith, states_few T sounds);
        long_commands = omega (arith, states_few T sounds);
        long_marks = omega (arith, states_few T sounds);
        ranked = rank_left;
        chose = command_left;
        marked = mark_left;
      }

  -- so they say what a state's line says
  pub state_listed : {ranks commands marks : List ℕ} → Holds T ranks commands marks → {s : ℕ} → s < T.size.n
      → {q : Span} → q ≡ span_at T s
      → Listed (plan_in T) s q.kind (get_or ranks s 0) (get_or commands s 0) (get_or marks s 0) (fault_outcome (plan_in T) s)
  unfolding plan_in rank_table command_table mark_table
  state_listed {ranks} {commands} {marks} h {s} l e =
      let P = plan_in T in
      let g = sound_good T sounds in
      let of_rank : get_or ranks s 0 ≡ get_or (overwrite (rank_table P) ranks) s 0 = h.ranked s l ∙ sym (overwrite_at _ P.states ranks s (in_plan l)) in
      let of_command : get_or commands s 0 ≡ get_or (overwrite (command_table P) commands) s 0 = h.chose s l ∙ sym (overwrite_at _ P.states commands s (in_plan l)) in
      let of_mark : get_or marks s 0 ≡ get_or (overwrite (mark_table P) marks) s 0 = h.marked s l ∙ sym (overwrite_at (mark P) P.states marks s (in_plan l)) in
      rw (e, of_rank, of_command, of_mark, ← kind_held T s l)
      (listed_tables P (sound_valid T sounds) (omega (arith, few_states (tree_of T) g))
      (λ s k. omega (arith, few_commands (tree_of T) g s k)) ranks commands marks s (in_plan l))

-- two rows are the tally
pub two_rows : (P : Plan) {t : List (List ℕ)} (d : List ℕ) → t ≡ tally P → get_or t 0 d ∷ get_or t 1 d ∷ [] ≡ tally P
unfolding tally
two_rows P d e = rw e
