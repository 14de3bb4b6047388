-- A stuck state in what the calls answer and leave, and in the bytes that the C program's calls leave.
use mathlib.Core.Path.{◌≡◌, refl, sym, ap, subst, ◌∙◌}
use mathlib.Core.Bool.{Bool, true, false, not, cond, ◌&&◌}
use mathlib.Core.List.{List, []}
use mathlib.Core.Logic.{inr, ⊎_elim}
use mathlib.Core.Option.{Option, none, some}
use Prim.Native.Nat.{ℕ, ◌+◌, ◌<◌}
use native.Mathlib.Omega.{arith}
use lib.ListN.{length, get_or}
use Rattle.laws.specs.Lists.{joined, overwrite}
use Rattle.laws.specs.Entry.{FFFF, entry}
use Rattle.laws.proofs.Tests.{true_or_false}
use Rattle.laws.proofs.Sets.{many_parts}
use Rattle.model.specs.Plan.{Plan, stuck, has_practice}
use Rattle.model.specs.Verdict.{rank, lost}
use Rattle.model.specs.Command.{chosen}
use Rattle.model.specs.Practice.{mark, tally_row, tally}
use Rattle.model.specs.Search.{Result, search}
use Rattle.model.specs.Refusal.{Answer, given}
use Rattle.model.specs.Tables.{Tables}
use Rattle.model.specs.SoundTest.{sound}
use Rattle.model.specs.Held.{plan_in}
use Rattle.model.specs.Calls.{left, rank_table, command_table, mark_table, result_table, decide_call, search_call}
use Rattle.model.specs.Contest.{contest_call}
use Rattle.model.specs.Warning.{Time, no_time, warning_call}
use Rattle.model.specs.Stuck.{StuckState, StuckEntries, StuckCounted, StuckSearched}
use Rattle.model.specs.Boundary.{entries_in, tally_entries, verdict_in, rounds_in, gate_decide_call, gate_search_call}
use Rattle.model.proofs.StateKinds.{failing_of, stuck_is}
use Rattle.model.proofs.Answers.{answer_inv}
use Rattle.model.proofs.HeldPlan.{states_held}
use Rattle.model.proofs.Valid.{sound_valid}
use Rattle.model.proofs.Answering.{deciding_iff, searching_iff}
use Rattle.model.proofs.ContestCalls.{contest_iff}
use Rattle.model.proofs.WarningCalls.{warned}
use Rattle.model.proofs.Delivered.{entry_written}
use Rattle.model.proofs.GateDemands.{decided_bytes, searched_bytes}
use Rattle.model.proofs.Stuck.{stuck_state}

module _ (T : Tables) (sounds : sound T ≡ true) where
  abbrev P : Plan
  P = plan_in T

  held_state : (s : ℕ) → s < T.size.n → stuck P s ≡ true → StuckState P s
  held_state s l e = stuck_state P (sound_valid T sounds) s (rw (states_held T) l) e

  -- the tables that deciding writes, whatever they held before
  entries_written : (ranks commands marks : List ℕ) (s : ℕ) → s < T.size.n → stuck P s ≡ true
      → StuckEntries (overwrite (rank_table P) ranks) (overwrite (command_table P) commands)
      (overwrite (mark_table P) marks) s
  unfolding rank_table command_table mark_table entry
  entries_written ranks commands marks s l e =
      let q = held_state s l e in
      let m : s < P.states = rw (states_held T) l in
      record {
        rank_entry_lem = entry_written (λ t. entry (rank P t)) P.states ranks s FFFF m ∙ ap entry q.ranked;
        command_entry_lem = entry_written (λ t. entry (chosen P t)) P.states commands s 0 m ∙ ap entry q.unchosen;
        mark_entry_lem = entry_written (mark P) P.states marks s 0 m ∙ q.marked;
      }

  -- a lost state without a practice is stuck or is not
  all_counted : StuckCounted P (get_or (get_or (tally P) 1 []) 2 0)
  unfolding tally tally_row
  all_counted = sym (many_parts (stuck P) (λ s. not (stuck P s) && lost P s && not (has_practice P s)) _ P.states parts)
    where
      parts : (s : ℕ) → s < P.states
          → cond (stuck P s) 1 0 + cond (not (stuck P s) && lost P s && not (has_practice P s)) 1 0
          ≡ cond (lost P s && not (has_practice P s)) 1 0
      parts s l = ⊎_elim
          (λ e. let (row, column) = (held_state s (rw (states_held T) at l) e).counted in rw (e, row, column))
          (λ e. rw e (omega arith))
          (true_or_false (stuck P s))

  -- the commands that a search writes, whatever the table held before
  search_written : (s : ℕ) → s < T.size.n → stuck P s ≡ true → (a : ℕ) (table : List ℕ)
      → StuckSearched T.size.n s a (search P a).lost (search P a).rounds (overwrite (result_table T.size.n (search P a)) table)
  unfolding result_table entry
  search_written s l e a table =
      let q = held_state s l e in
      record {
        untaken_entry = none_at s l (q.untaken a);
        from_it = λ i. let (v, r, c) = q.searched in (rw i v, rw i r, λ x m. none_at x m (rw i (c x)));
      }
    where
      none_at : (x : ℕ) → x < T.size.n → (search P a).command x ≡ none
          → get_or (overwrite (result_table T.size.n (search P a)) table) x 0 ≡ FFFF
      none_at x m c = entry_written (λ t. entry ((search P a).command t)) T.size.n table x 0 m ∙ ap entry c

-- ---- the calls

pub stuck_decided : (T : Tables) (ranks commands marks scratch : List ℕ) (counts : List (List ℕ))
    → let D = decide_call T ranks commands marks scratch in
    D.answers ≡ given counts
    → StuckCounted (plan_in T) (get_or (get_or counts 1 []) 2 0)
    × ((s : ℕ) → s < T.size.n → stuck (plan_in T) s ≡ true → StuckEntries D.ranks D.commands D.marks s)
unfolding left
stuck_decided T ranks commands marks scratch counts e =
    let (P, d, q) = answer_inv tally _ counts e in
    let D = (deciding_iff T (length ranks) (length commands) (length marks) (length scratch) P).0 d in
    (rw (← q, ← D.is) (all_counted T D.sounds), rw (d, ← D.is) (entries_written T D.sounds ranks commands marks))

pub stuck_searched : (T : Tables) (s : ℕ) → s < T.size.n → stuck (plan_in T) s ≡ true
    → (a : ℕ) (table space : List ℕ) (verdict : Bool) (rounds : ℕ)
    → let S = search_call T a table space in
    S.answers ≡ given (verdict, rounds) → StuckSearched T.size.n s a verdict rounds S.commands
unfolding left
stuck_searched T s l e a table space verdict rounds h =
    let (R, f, q) = answer_inv (λ (x : Result). (x.lost, x.rounds)) _ (verdict, rounds) h in
    let S = (searching_iff T a (length table) (length space) R).0 f in
    rw f (subst (λ (v : Bool × ℕ). StuckSearched T.size.n s a v.0 v.1 (overwrite (result_table T.size.n R) table)) q
    (rw (← S.is) (search_written T S.sounds s l e a table)))

pub stuck_contested : (T : Tables) (s : ℕ) → stuck (plan_in T) s ≡ true → (k : ℕ) (held : Bool) → contest_call T s k ≡ given held
    → held ≡ false
stuck_contested T s e k held a =
    let w = (contest_iff T s k held).0 a in
    sym w.is ∙ (held_state T w.sounds s w.inside e).not_held k

pub stuck_warned : (T : Tables) (s : ℕ) → stuck (plan_in T) s ≡ true → (d : ℕ) (answer : Option Time) → warning_call T s d ≡ given answer
    → answer ≡ some no_time
stuck_warned T s e d answer a = (warned T s d answer a).at_once_lem.1 (failing_of (plan_in T) s (inr (stuck_is (plan_in T) s e)))

-- ---- the calls of the C program, where they return 0

-- the last entry of a tally is the last count of its second row
last_entry : (P : Plan) (slice : List ℕ) → get_or (overwrite (tally_entries P) slice) 5 0 ≡ get_or (get_or (tally P) 1 []) 2 0
unfolding tally_entries tally tally_row joined overwrite
last_entry P slice = refl

module _ (lent : Answer Tables) (T : Tables) (is : lent ≡ given T) where
  pub gate_stuck_decided : (ranks commands marks scratch tally : List ℕ)
      → let D = gate_decide_call lent ranks commands marks scratch tally in
      D.returns ≡ 0
      → StuckCounted (plan_in T) (get_or (entries_in D.tally) 5 0)
      × ((s : ℕ) → s < T.size.n → stuck (plan_in T) s ≡ true
      → StuckEntries (entries_in D.ranks) (entries_in D.commands) (entries_in D.marks) s)
  gate_stuck_decided ranks commands marks scratch tally e =
      let D = decided_bytes lent T is ranks commands marks scratch tally e in
      rw (D.rank_entries, D.command_entries, D.mark_entries, D.tally_entries_lem, last_entry (plan_in T) (entries_in tally))
      (all_counted T D.sounds, entries_written T D.sounds (entries_in ranks) (entries_in commands) (entries_in marks))

  pub gate_stuck_searched : (s : ℕ) → s < T.size.n → stuck (plan_in T) s ≡ true → (a : ℕ) (table space answer : List ℕ)
      → let S = gate_search_call lent a table space answer in
      S.returns ≡ 0 → StuckSearched T.size.n s a (verdict_in S.answer) (rounds_in S.answer) (entries_in S.commands)
  gate_stuck_searched s l e a table space answer h =
      let S = searched_bytes lent T is a table space answer h in
      rw (S.verdict, S.rounds, S.command_entries) (search_written T S.sounds s l e a (entries_in table))
