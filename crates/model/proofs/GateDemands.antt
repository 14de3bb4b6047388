-- Demand 3 over the bytes that the C program's calls leave: entries that were written are read as they were, so it is the claim of the
-- tables.
use mathlib.Core.Path.{◌≡◌, refl, sym, ap, ap₂, ◌∙◌}
use mathlib.Core.Bool.{Bool, true, false, cond}
use mathlib.Core.List.{List, [], ◌∷◌, ◌++◌}
use Prim.Native.Nat.{ℕ, zero, suc, ◌+◌, ◌-◌, ◌*◌, ◌/◌, ◌%◌, ◌<◌, ◌≤◌}
use native.Mathlib.Nat.{zero-add}
use native.Mathlib.Omega.{arith}
use lib.Dec.{leb, eqb}
use lib.ListN.{length, drop, length-append, length-drop}
use lib.Seq.{drop-drop}
use borrow.Author.Tests.{leb-true}
use Rattle.laws.specs.Lists.{tabulate, joined, overwrite}
use Rattle.laws.specs.Entry.{twos, entry}
use Rattle.laws.proofs.Entry.{be16_two, length_twos}
use Rattle.laws.proofs.Lists.{length_tabulate}
use Rattle.model.specs.Plan.{Plan}
use Rattle.model.specs.Verdict.{rank}
use Rattle.model.specs.Command.{chosen}
use Rattle.model.specs.Practice.{mark, tally_row, tally as tallyCounts}
use Rattle.model.specs.Search.{Result, search}
use Rattle.model.specs.Refusal.{Refusal, Cramped, Answer, given, refused, number, ◌>>=◌}
use Rattle.model.specs.Tables.{Tables}
use Rattle.model.specs.File.{entries}
use Rattle.model.specs.SoundTest.{sound}
use Rattle.model.specs.Held.{plan_in}
use Rattle.model.specs.Calls.{left, deciding, searching, rank_table, command_table, mark_table, result_table}
use Rattle.model.specs.Boundary.{
  entries_in,
  bytes_for,
  result_entries,
  tally_bytes,
  answer_bytes,
  tally_entries,
  code,
  verdict_in,
  rounds_in,
  gate_decide,
  gate_search,
  AfterGateDecide,
  gate_decide_call,
  AfterGateSearch,
  gate_search_call,
}
use Rattle.model.specs.Demand3.{DecidingDemand3, SearchDemand3}
use Rattle.model.proofs.Numbers.{number_bound}
use Rattle.model.proofs.Answers.{bind_inv, need_inv, given_inj}
use Rattle.model.proofs.Answering.{DecideAnswers, SearchAnswers, deciding_iff, searching_iff}
use Rattle.model.proofs.HeldPlan.{states_held}
use Rattle.model.proofs.Delivered.{tables_decided, table_searched}

-- ---- entries written to bytes

front_entries : (es : List ℕ) (k : ℕ) (r : List ℕ) → entries (length es + k) (twos es [] ++ r) ≡ es ++ entries k r
unfolding entries twos
front_entries [] k r = rw (zero-add k)
front_entries (v ∷ vs) k r =
    let e : suc (length vs) + k ≡ suc (length vs + k) = omega arith in
    rw e (ap₂ (λ (x : ℕ) (l : List ℕ). x ∷ l) (be16_two v (twos vs [] ++ r)) (front_entries vs k r))

later_entries : (j k : ℕ) (s : List ℕ) → entries k (drop (j * 2) s) ≡ drop j (entries (j + k) s)
unfolding entries
later_entries zero k s = rw (zero-add k)
later_entries (suc j) k s =
    let e : 2 + j * 2 ≡ suc j * 2 = omega arith in
    let f : suc j + k ≡ suc (j + k) = omega arith in
    rw f (ap (entries k) (sym (drop-drop (j * 2) 2 s ∙ ap (λ (i : ℕ). drop i s) e)) ∙ later_entries j k (drop 2 s))

-- what is read of bytes to which entries were written
pub written_entries : (es s : List ℕ) → length es * 2 ≤ length s → entries_in (overwrite (bytes_for es) s) ≡ overwrite es (entries_in s)
unfolding entries_in overwrite
written_entries es s h =
    let b = length_twos es [] in
    let l : length (twos es []) ≡ length es * 2 = omega (arith, b) in
    let k : ℕ = length s / 2 - length es in
    let d : length (drop (length (twos es [])) s) ≡ length s - length (twos es []) = length-drop _ s in
    let a : length (twos es [] ++ drop (length (twos es [])) s) / 2 ≡ length es + k
    = omega (arith, length-append (twos es []) (drop (length (twos es [])) s), d, l, h) in
    let c : length es + k ≡ length s / 2 = omega (arith, h) in
    rw a (front_entries es k (drop (length (twos es [])) s)
    ∙ ap (λ (r : List ℕ). es ++ r)
    (ap (λ (i : ℕ). entries k (drop i s)) l ∙ later_entries (length es) k s ∙ ap (λ (i : ℕ). drop (length es) (entries i s)) c))

-- of a table that is made by a rule
written_table : (f : ℕ → ℕ) (n : ℕ) (s : List ℕ) → n ≤ length s / 2
    → entries_in (overwrite (bytes_for (tabulate f 0 n)) s) ≡ overwrite (tabulate f 0 n) (entries_in s)
written_table f n s h = written_entries (tabulate f 0 n) s (omega (arith, h, length_tabulate f 0 n))

-- ---- a call that returned 0

-- no refusal has the number 0
numbered : (r : Refusal) → number r ≡ 0 → ⊥
numbered r e = omega (arith, e, (number_bound r).0)

pub answered : {A : Type 0} (x : Answer A) → code x ≡ 0 → (a : A) × (x ≡ given a)
unfolding code
answered (given a) e = (a, refl)
answered (refused r) e = absurd (numbered r e)

module _ (T : Tables) where
  decided : (ranks commands marks scratch tally : ℕ) (P : Plan) → gate_decide (given T) ranks commands marks scratch tally ≡ given P
      → DecideAnswers T (ranks / 2) (commands / 2) (marks / 2) (scratch / 2) P × (12 ≤ tally)
  unfolding gate_decide ◌>>=◌
  decided ranks commands marks scratch tally P e =
      let (Q, d, f) = bind_inv (deciding T (ranks / 2) (commands / 2) (marks / 2) (scratch / 2)) _ e in
      let (l, g) = need_inv Cramped (leb tally_bytes tally) (given Q) f in
      ((deciding_iff T (ranks / 2) (commands / 2) (marks / 2) (scratch / 2) P).0 (d ∙ g), leb-true tally_bytes tally l)

  found : (start commands scratch answer n : ℕ) (R : Result) → gate_search (given T) start commands scratch answer ≡ given (n, R)
      → (T.size.n ≡ n) × SearchAnswers T start (commands / 2) (scratch / 2) R × (4 ≤ answer)
  unfolding gate_search ◌>>=◌
  found start commands scratch answer n R e =
      let (Q, d, f) = bind_inv (searching T start (commands / 2) (scratch / 2)) _ e in
      let (l, g) = need_inv Cramped (leb answer_bytes answer) (given (T.size.n, Q)) f in
      let same = given_inj g in (
        ap (λ (x : ℕ × Result). x.0) same,
        (searching_iff T start (commands / 2) (scratch / 2) R).0 (d ∙ ap (λ (x : ℕ × Result). given x.1) same),
        leb-true answer_bytes answer l,
      )

-- the answer's entries, and the bytes behind them
verdict_entry : (R : Result) (answer : List ℕ) → verdict_in (overwrite (bytes_for (result_entries (R.lost, R.rounds))) answer) ≡ R.lost
unfolding result_entries overwrite twos
verdict_entry R answer = flag R.lost
  where
    flag : (b : Bool) → eqb (cond b 1 0 / 256 * 256 + cond b 1 0 % 256) 1 ≡ b
    flag true = refl
    flag false = refl

rounds_entry : (R : Result) (answer : List ℕ) → rounds_in (overwrite (bytes_for (result_entries (R.lost, R.rounds))) answer) ≡ R.rounds
unfolding result_entries overwrite twos
rounds_entry R answer = be16_two R.rounds []

-- ---- what is read of the bytes that a call leaves when it returns 0, whatever the slices held before

pub record DecidedBytes (T : Tables) (ranks commands marks tally : List ℕ) (D : AfterGateDecide) : Type 0 where
  pub sounds : sound T ≡ true
  pub rank_entries : entries_in D.ranks ≡ overwrite (rank_table (plan_in T)) (entries_in ranks)
  pub command_entries : entries_in D.commands ≡ overwrite (command_table (plan_in T)) (entries_in commands)
  pub mark_entries : entries_in D.marks ≡ overwrite (mark_table (plan_in T)) (entries_in marks)
  pub tally_entries_lem : entries_in D.tally ≡ overwrite (tally_entries (plan_in T)) (entries_in tally)

pub record SearchedBytes (T : Tables) (a : ℕ) (table : List ℕ) (S : AfterGateSearch) : Type 0 where
  pub sounds : sound T ≡ true
  pub inside : a < T.size.n
  pub verdict : verdict_in S.answer ≡ (search (plan_in T) a).lost
  pub rounds : rounds_in S.answer ≡ (search (plan_in T) a).rounds
  pub command_entries : entries_in S.commands ≡ overwrite (result_table T.size.n (search (plan_in T) a)) (entries_in table)

-- a tally is six entries
six : (P : Plan) → length (tally_entries P) ≡ 6
unfolding tally_entries tallyCounts tally_row joined
six P = refl

module _ (lent : Answer Tables) (T : Tables) (is : lent ≡ given T) where
  pub decided_bytes : (ranks commands marks scratch tally : List ℕ)
      → let D = gate_decide_call lent ranks commands marks scratch tally in
      D.returns ≡ 0 → DecidedBytes T ranks commands marks tally D
  unfolding left rank_table command_table mark_table
  decided_bytes ranks commands marks scratch tally e =
      let (P, p) = answered (gate_decide (given T) (length ranks) (length commands) (length marks) (length scratch) (length tally))
      (rw is at e) in
      let (D, room) = decided T (length ranks) (length commands) (length marks) (length scratch) (length tally) P p in
      let m = states_held T in
      rw (is, p, ← D.is) record {
        sounds = D.sounds;
        rank_entries = written_table (λ s. entry (rank (plan_in T) s)) (plan_in T).states ranks (omega (arith, D.long_ranks, m));
        command_entries = written_table (λ s. entry (chosen (plan_in T) s)) (plan_in T).states commands (omega (arith, D.long_commands, m));
        mark_entries = written_table (mark (plan_in T)) (plan_in T).states marks (omega (arith, D.long_marks, m));
        tally_entries_lem = written_entries (tally_entries (plan_in T)) tally (omega (arith, room, six (plan_in T)));
      }

  pub searched_bytes : (a : ℕ) (table space answer : List ℕ)
      → let S = gate_search_call lent a table space answer in
      S.returns ≡ 0 → SearchedBytes T a table S
  unfolding left result_table
  searched_bytes a table space answer e =
      let (x, q) = answered (gate_search (given T) a (length table) (length space) (length answer)) (rw is at e) in
      let (n, S, l) = found T a (length table) (length space) (length answer) x.0 x.1 q in
      rw (is, q, ← S.is, ← n) record {
        sounds = S.sounds;
        inside = S.inside;
        verdict = verdict_entry (search (plan_in T) a) answer;
        rounds = rounds_entry (search (plan_in T) a) answer;
        command_entries = written_table (λ s. entry ((search (plan_in T) a).command s)) T.size.n table S.long_commands;
      }

  -- rules G1 and D3
  pub gate_decide_demand3 : (ranks commands marks scratch tally : List ℕ) → (gate_decide_call lent ranks commands marks scratch tally).returns
      ≡ 0
      → DecidingDemand3 T (entries_in (gate_decide_call lent ranks commands marks scratch tally).ranks)
      (entries_in (gate_decide_call lent ranks commands marks scratch tally).commands)
  gate_decide_demand3 ranks commands marks scratch tally e =
      let D = decided_bytes ranks commands marks scratch tally e in
      rw (D.rank_entries, D.command_entries) (tables_decided T D.sounds (entries_in ranks) (entries_in commands))

  pub gate_search_demand3 : (a : ℕ) (table space answer : List ℕ) → (gate_search_call lent a table space answer).returns ≡ 0
      → SearchDemand3 T a (verdict_in (gate_search_call lent a table space answer).answer)
      (rounds_in (gate_search_call lent a table space answer).answer)
      (entries_in (gate_search_call lent a table space answer).commands)
  gate_search_demand3 a table space answer e =
      let S = searched_bytes a table space answer e in
      rw (S.verdict, S.rounds, S.command_entries) (table_searched T S.sounds a S.inside (entries_in table))
