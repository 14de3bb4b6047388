-- Every claim of specs/Claims.antt, proved.
use mathlib.Core.Path.{◌≡◌, refl, ap, subst}
use mathlib.Core.Bool.{Bool, true, false}
use mathlib.Core.List.{List}
use mathlib.Core.Logic.{◌⊎◌, inl, inr, ⊎_elim, ◌↔◌}
use mathlib.Core.Option.{some}
use Prim.Native.Nat.{ℕ, ◌<◌, ◌≤◌}
use native.Mathlib.Omega.{arith}
use lib.Dec.{leb}
use lib.ListN.{length}
use Rattle.laws.specs.Sets.{lowest}
use Rattle.laws.proofs.Tests.{clash, refute}
use Rattle.model.specs.Plan.{Valid}
use Rattle.model.specs.Verdict.{rank}
use Rattle.model.specs.Search.{ends, before, search}
use Rattle.model.specs.Refusal.{Refusal, Cramped, Unsound, Stranger, Moves, Seconds, given, refused, answer}
use Rattle.model.specs.File.{max_states}
use Rattle.model.specs.Bytes.{bytes_of}
use Rattle.model.specs.Tables.{Size, Tables, file_length}
use Rattle.model.specs.Sound.{Sound}
use Rattle.model.specs.SoundTest.{sound}
use Rattle.model.specs.Held.{tree_of, plan_of, plan_in}
use Rattle.model.specs.Calls.{write_call}
use Rattle.model.specs.Contest.{keeper_turn, max_moves}
use Rattle.model.specs.Warning.{warning, length_allowed}
use Rattle.model.specs.Trim.{trimmed}
use Rattle.model.specs.Claims.{Short, Conditions, Meanings, Rules, Failings, Contests, Warnings, Trimmings, Carryings}
use Rattle.model.proofs.StateKinds.{bound_counts}
use Rattle.model.proofs.HeldPlan.{states_held}
use Rattle.model.proofs.SoundFacts.{sound_facts}
use Rattle.model.proofs.Soundness.{sound_iff}
use Rattle.model.proofs.Valid.{file_valid, sound_valid}
use Rattle.model.proofs.Answering.{reading_iff, writing_iff, deciding_iff, searching_iff}
use Rattle.model.proofs.Refusing
use Rattle.model.proofs.StateCalls.{
  state_call,
  state_only,
  state_unsound,
  state_stranger,
  state_own,
  room_test,
  searching_tests,
}
use Rattle.model.proofs.OnlyRefused.{reading_only, writing_only, deciding_only, two_short}
use Rattle.model.proofs.Layers.{lost_iff_layer, rank_some, layer_rank, rank_below}
use Rattle.model.proofs.ValueEquation.{least_solution}
use Rattle.model.proofs.Choices.{choice_words}
use Rattle.model.proofs.PracticeRuns.{practice_judged}
use Rattle.model.proofs.PracticeHits.{fault_words}
use Rattle.model.proofs.Faults.{hit_lowest, hit_none, fault_named, last_word, fault_unprinted, fault_printed}
use Rattle.model.proofs.Numerals.{only_digits, number_told, zero_printed, no_zero_first}
use Rattle.model.proofs.Searching.{last_round}
use Rattle.model.proofs.RoundTrips.{read_write, write_read, written_length}
use Rattle.model.proofs.FileLength.{length_bytes}
use Rattle.model.proofs.Bench.{bench_plans, case_a_listing_lem}
use Rattle.model.proofs.ListingLength.{listing_length}
use Rattle.model.proofs.Delivered.{decide_demand3, search_demand3}
use Rattle.model.proofs.ContestCalls.{contest_tests, contest_iff, moves_refused, contested}
use Rattle.model.proofs.WarningCalls.{length_refused, warning_tests, warning_iff, warned}
use Rattle.model.proofs.TrimCalls.{trimming_iff, trimming_unsound, trimming_cramped, trimming_only}
use Rattle.model.proofs.TrimTables.{trimmed_tables}
use Rattle.model.proofs.CarryCalls.{
  carry_unsound_iff,
  sound_unless,
  sound_not,
  carrying_iff,
  carrying_unsound,
  carrying_cramped,
  carrying_only,
}
use Rattle.model.proofs.CarryTables.{carried_back, map_fits, map_accepted, decided_back}
use Rattle.model.proofs.GateDemands.{gate_decide_demand3, gate_search_demand3}
use Rattle.model.proofs.Stuck.{rank_zero, rest_safe, stuck_state, stuck_line}
use Rattle.model.proofs.StuckCalls.{
  stuck_decided,
  stuck_searched,
  stuck_contested,
  stuck_warned,
  gate_stuck_decided,
  gate_stuck_searched,
}

-- ---- demand 1

-- the test that is computed, and what it decides
module _ (T : Tables) where
  sounds : sound T ≡ true → Sound T
  sounds = (sound_iff T).0

  passes : Sound T → sound T ≡ true
  passes = (sound_iff T).1

  unsound : sound T ≡ false → Sound T → ⊥
  unsound e S = clash (passes S) e

  stops : (Sound T → ⊥) → sound T ≡ false
  stops h = refute (sound T) (λ e. h (sounds e))

-- tables that are not short are long enough
long_enough : (z : Size) (rows firsts outcomes : ℕ) → (Short z rows firsts outcomes → ⊥) → (z.n ≤ rows) × (z.m ≤ firsts)
    × (z.t ≤ outcomes)
long_enough z rows firsts outcomes h = (not_less (λ l. h (inl l)), not_less (λ l. h (inr (inl l))), not_less (λ l. h (inr (inr l))))
  where
    not_less : {a b : ℕ} → (a < b → ⊥) → b ≤ a
    not_less h = omega (arith, h)

not_short : (z : Size) (rows firsts outcomes : ℕ) → z.n ≤ rows → z.m ≤ firsts → z.t ≤ outcomes → Short z rows firsts outcomes → ⊥
not_short z rows firsts outcomes a b c = ⊎_elim (λ l. omega arith) (⊎_elim (λ l. omega arith) (λ l. omega arith))

-- when a call that is told a state refuses, given when its own test does not hold
state_refused : {A : Type 0} (T : Tables) (s : ℕ) (own : Refusal) (test : Bool) (a : A) {Out : Type 0} → (test ≡ false) ↔ Out
    → (r : Refusal) → (state_call T s own test a ≡ refused r)
    ↔ (((Sound T → ⊥) × (r ≡ Unsound)) ⊎ ((Sound T × (T.size.n ≤ s) × (r ≡ Stranger)) ⊎ (Sound T × (s < T.size.n) × Out × (r ≡ own))))
state_refused T s own test a out r = (
  λ e.
      ⊎_elim (λ (u, is). inl (unsound T u, is))
      (⊎_elim (λ (q, h, is). inr (inl (sounds T q, h, is))) (λ (q, i, f, is). inr (inr (sounds T q, i, out.0 f, is))))
      (state_only T s own test a r e),
  ⊎_elim (λ (u, is). rw is (state_unsound T s own test a (stops T u)))
      (⊎_elim (λ (S, h, is). rw is (state_stranger T s own test a (passes T S) h))
      (λ (S, i, f, is). rw is (state_own T s own test a (passes T S) i (out.1 f)))),
)

pub conditions : Conditions
conditions = record {
  reading_given = λ rows firsts outcomes file T. (
    λ e.
        let a = (reading_iff rows firsts outcomes file T).0 e in
        (a.tree, a.reads, a.is, not_short T.size rows firsts outcomes a.long_rows a.long_firsts a.long_outcomes),
    λ (p, r, is, h).
        let (a, b, c) = long_enough T.size rows firsts outcomes h in
        (reading_iff rows firsts outcomes file T).1
        (record { tree = p; reads = r; is = is; long_rows = a; long_firsts = b; long_outcomes = c }),
  );
  reading_refused = λ rows firsts outcomes file r. (
    reading_only rows firsts outcomes file r,
    ⊎_elim (Refusing.reading_refused rows firsts outcomes file r)
        (λ (p, e, short, is). rw is (Refusing.reading_cramped rows firsts outcomes file p e short)),
  );
  writing_given = λ T bytes file. (
    λ e. let w = (writing_iff T bytes file).0 e in (sounds T w.sounds, w.long, w.is),
    λ (S, long, is). (writing_iff T bytes file).1 (record { sounds = passes T S; long = long; is = is }),
  );
  writing_refused = λ T bytes r. (
    λ e. ⊎_elim (λ (u, is). inl (unsound T u, is)) (λ (s, short, is). inr (sounds T s, short, is)) (writing_only T bytes r e),
    ⊎_elim (λ (u, is). rw is (Refusing.writing_unsound T (stops T u) bytes))
        (λ (S, short, is). rw is (Refusing.writing_cramped T (passes T S) bytes short)),
  );
  deciding_given = λ T ranks commands marks scratch P. (
    λ e.
        let w = (deciding_iff T ranks commands marks scratch P).0 e in
        (sounds T w.sounds, w.long_ranks, w.long_commands, w.long_marks, w.long_scratch, w.is),
    λ (S, a, b, c, d, is).
        (deciding_iff T ranks commands marks scratch P).1 (record {
          sounds = passes T S;
          long_ranks = a;
          long_commands = b;
          long_marks = c;
          long_scratch = d;
          is = is;
        }),
  );
  deciding_refused = λ T ranks commands marks scratch r. (
    λ e. ⊎_elim (λ (u, is). inl (unsound T u, is)) (λ (s, short, is). inr (sounds T s, short, is))
        (deciding_only T ranks commands marks scratch r e),
    ⊎_elim (λ (u, is). rw is (Refusing.deciding_unsound T (stops T u) ranks commands marks scratch))
        (λ (S, short, is). rw is (Refusing.deciding_cramped T (passes T S) ranks commands marks scratch short)),
  );
  searching_given = λ T start commands scratch R. (
    λ e.
        let w = (searching_iff T start commands scratch R).0 e in
        (sounds T w.sounds, w.inside, w.long_commands, w.long_scratch, w.is),
    λ (S, i, a, b, is).
        (searching_iff T start commands scratch R).1
        (record { sounds = passes T S; inside = i; long_commands = a; long_scratch = b; is = is }),
  );
  searching_refused = λ T start commands scratch r.
      rw (searching_tests T start commands scratch)
      (state_refused T start Cramped (room_test T commands scratch) (search (plan_in T) start)
      (two_short T.size.n commands T.size.n scratch, Refusing.some_short T.size.n commands scratch) r);
  contest_given = λ T s k held. (
    λ e. let w = (contest_iff T s k held).0 e in (sounds T w.sounds, w.inside, w.few, w.is),
    λ (S, i, few, is). (contest_iff T s k held).1 (record { sounds = passes T S; inside = i; few = few; is = is }),
  );
  contest_refused = λ T s k r.
      rw (contest_tests T s k) (state_refused T s Moves (leb k max_moves) (keeper_turn (plan_in T) k s) (moves_refused k) r);
  warning_given = λ T s d w. (
    λ e. let a = (warning_iff T s d w).0 e in (sounds T a.sounds, a.inside, a.some_length, a.few_seconds, a.is),
    λ (S, i, some_length, few_seconds, is).
        (warning_iff T s d w).1
        (record { sounds = passes T S; inside = i; some_length = some_length; few_seconds = few_seconds; is = is }),
  );
  warning_refused = λ T s d r.
      rw (warning_tests T s d) (state_refused T s Seconds (length_allowed d) (warning (rank (plan_in T) s) d) (length_refused d) r);
  trimming_given = λ T rows firsts outcomes olds scratch p.
      let z = (trimmed (tree_of T)).size in (
        λ e.
            let w = (trimming_iff T rows firsts outcomes olds scratch p).0 e in
            let long = not_short z rows firsts outcomes w.long_rows w.long_firsts w.long_outcomes in
            (sounds T w.sounds, long, w.long_olds, w.long_scratch, w.is),
        λ (S, h, k, l, is).
            let (a, b, c) = long_enough z rows firsts outcomes h in
            (trimming_iff T rows firsts outcomes olds scratch p).1 (record {
              sounds = passes T S;
              long_rows = a;
              long_firsts = b;
              long_outcomes = c;
              long_olds = k;
              long_scratch = l;
              is = is;
            }),
      );
  trimming_refused = λ T rows firsts outcomes olds scratch r. (
    λ e. ⊎_elim (λ (u, is). inl (unsound T u, is)) (λ (s, short, is). inr (sounds T s, short, is))
        (trimming_only T rows firsts outcomes olds scratch r e),
    ⊎_elim (λ (u, is). rw is (trimming_unsound T rows firsts outcomes olds scratch (stops T u)))
        (λ (S, short, is). rw is (trimming_cramped T rows firsts outcomes olds scratch (passes T S) short)),
  );
  carrying_given = λ n olds table places entries. (
    λ e. let (f, l, is) = (carrying_iff n olds table places entries).0 e in (sound_not n olds (length table) f, l, is),
    λ (h, l, is). (carrying_iff n olds table places entries).1 (sound_unless n olds (length table) h, l, is),
  );
  carrying_refused = λ n olds table places r. (
    λ e. ⊎_elim (λ (m, is). inl ((carry_unsound_iff n olds (length table)).0 m, is))
        (λ (f, short, is). inr (sound_not n olds (length table) f, short, is))
        (carrying_only n olds table places r e),
    ⊎_elim (λ (m, is). rw is (carrying_unsound n olds table places ((carry_unsound_iff n olds (length table)).1 m)))
        (λ (h, short, is). rw is (carrying_cramped n olds table places (sound_unless n olds (length table) h) short)),
  );
}

-- ---- demand 2

module _ (T : Tables) (S : Sound T) where
  valid : Valid (plan_in T)
  valid = sound_valid T (passes T S)

  few : (plan_in T).states ≤ max_states
  few = rw (states_held T) ((sound_facts T).0 (passes T S)).size.few

  in_plan : (s : ℕ) → s < T.size.n → s < (plan_in T).states
  in_plan s l = rw (states_held T) l

-- the length that is answered is the file's, so that the file is the bytes up to it
written_answers : (T : Tables) (bytes : List ℕ) → Sound T → file_length T ≤ length bytes → (write_call T bytes).answers ≡ given (file_length T)
unfolding answer
written_answers T bytes S long =
    let w = (writing_iff T (length bytes) (bytes_of (tree_of T))).1 (record { sounds = passes T S; long = long; is = refl }) in
    rw w (ap given (written_length T (length bytes) (bytes_of (tree_of T)) w))

pub meanings : Meanings
meanings = record {
  sound_computed = sound_iff;
  lost_layer = λ T S s l. lost_iff_layer (plan_in T) (valid T S) s (in_plan T S s l);
  first_layer = λ T S s l r. (
    rank_some (plan_in T) s r,
    λ (h, low).
        let (q, le, e) = layer_rank (plan_in T) (valid T S) r s (in_plan T S s l) h in
        let first : (q < r) → ⊥ = λ less. clash (rank_some (plan_in T) s q e).0 (low q less) in
        let same : q ≡ r = omega (arith, le, first) in
        rw (← same) e,
  );
  rank_below = λ T S s l r e. omega (arith, rank_below (plan_in T) (valid T S) s r (in_plan T S s l) e, states_held T);
  least_solution = λ T S. least_solution (plan_in T) (valid T S);
  choice_words = choice_words;
  practice_judged = λ T S s l. practice_judged (plan_in T) (valid T S) s (in_plan T S s l);
  hit_lowest = hit_lowest;
  hit_none = hit_none;
  fault_words = fault_words;
  fault_named = fault_named;
  only_digits = only_digits;
  number_told = number_told;
  zero_printed = zero_printed;
  no_zero_first = no_zero_first;
  last_word = last_word;
  fault_unprinted = fault_unprinted;
  fault_printed = λ T S s x l h. fault_printed (plan_in T) (valid T S) (few T S) s x (in_plan T S s l) (in_plan T S x h);
  last_round = λ T S a l act.
      subst (λ (n : ℕ). lowest (ends (plan_in T) a) n ≡ some (before (plan_in T) a)) (states_held T)
      (last_round (plan_in T) (valid T S) a (in_plan T S a l) act);
  read_write = read_write;
  file_length_lem = length_bytes;
  write_read = λ T bytes S long rows firsts outcomes. write_read T bytes (file_length T) (written_answers T bytes S long) rows firsts
      outcomes;
  bench_plans = bench_plans;
  case_a_listing_lem = case_a_listing_lem;
  listing_length = listing_length;
}

-- ---- demand 3

pub rules : Rules
rules = record {
  decided = decide_demand3;
  searched = search_demand3;
  gate_decided = gate_decide_demand3;
  gate_searched = gate_search_demand3;
}

-- ---- what counts as failing

pub failings : Failings
failings = record {
  rank_zero = λ T S s l. rank_zero (plan_in T) (valid T S) s (in_plan T S s l);
  bound_counts = bound_counts;
  rest_safe = λ T S s l. rest_safe (plan_in T) (valid T S) s (in_plan T S s l);
  stuck_state = λ T S s l. stuck_state (plan_in T) (valid T S) s (in_plan T S s l);
  stuck_line = λ file p e. stuck_line (plan_of p) (file_valid file p e);
  stuck_decided = stuck_decided;
  stuck_searched = stuck_searched;
  stuck_contested = stuck_contested;
  stuck_warned = stuck_warned;
  gate_stuck_decided = gate_stuck_decided;
  gate_stuck_searched = gate_stuck_searched;
}

-- ---- the contest

pub contests : Contests
contests = record { contested = contested }

-- ---- the warning time

pub warnings : Warnings
warnings = record { warned = warned }

-- ---- trimming

pub trimmings : Trimmings
trimmings = record { trimmed_tables = trimmed_tables }

-- ---- carrying back

pub carryings : Carryings
carryings = record { carried_back = carried_back; map_fits = map_fits; map_accepted = map_accepted; decided_back = decided_back }
