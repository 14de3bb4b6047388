-- What is claimed of the definitions, in the order of the demands. Each claim is proved: proofs/Claimed.antt. What is claimed of the calls'
-- code, that it answers and leaves what the definitions say, stands in the calls' contracts.
use Rattle.std.specs.Prelude.{◌≡◌, Bool, true, false, not, cond, ◌&&◌, ◌⊎◌, ◌↔◌, ℕ, ◌+◌, ◌<◌, ◌≤◌, length, get_or, take}
use mathlib.Core.List.{List, [], ◌∷◌, ◌++◌, Memᴰ, map}
use Rattle.std.proofs.Math.Option.{Option, none, some}
use Rattle.laws.specs.Sets.{lowest, how_many}
use Rattle.laws.specs.Lists.{overwrite}
use Rattle.laws.specs.Entry.{Bytes}
use Rattle.model.specs.Plan.{Plan, ordinary, active, stuck, has_practice}
use Rattle.model.specs.Rule.{Fails, positional}
use Rattle.model.specs.Verdict.{hit, hits, LowestHit, layer, rank, lost, safe}
use Rattle.model.specs.Value.{LeastSolution}
use Rattle.model.specs.Command.{choice}
use Rattle.model.specs.Practice.{followed, practice_fails, fault, fault_outcome}
use Rattle.model.specs.Search.{Result, ends, before, search, actives}
use Rattle.model.specs.Refusal.{Refusal, Cramped, Unsound, Stranger, Moves, Seconds, Answer, given, refused}
use Rattle.model.specs.File.{Tree, read}
use Rattle.model.specs.Bytes.{bytes_of}
use Rattle.model.specs.Tables.{Size, Row, Tables, Same, tables_of, file_length}
use Rattle.model.specs.Sound.{Sound}
use Rattle.model.specs.SoundTest.{sound}
use Rattle.model.specs.Held.{tree_of, plan_of, plan_in}
use Rattle.model.specs.Calls.{reading, writing, deciding, searching, read_call, after_reading, write_call, decide_call, search_call}
use Rattle.model.specs.Demand3.{DecidingDemand3, SearchDemand3}
use Rattle.model.specs.Contest.{keeper_turn, max_moves, contest_call, Contested}
use Rattle.model.specs.Warning.{Time, no_time, warning, longest_move, warning_call, Warned}
use Rattle.model.specs.Trim.{trimmed, trimming, trim_call, after_trimming}
use Rattle.model.specs.Trimmed.{Trimmed}
use Rattle.model.specs.Carry.{carried, CarryUnsound, carrying, carry_call}
use Rattle.model.specs.Carried.{KeptOf, Carried}
use Rattle.model.specs.Stuck.{StuckState, StuckEntries, StuckCounted, StuckSearched}
use Rattle.model.specs.Boundary.{entries_in, verdict_in, rounds_in, gate_decide_call, gate_search_call}
use Rattle.model.specs.Listing.{decimal, told, line, fault_sign, state_line, max_listing, listing}
use Rattle.model.specs.Bench.{judged, benches, case_a, case_a_listing}

-- ---- rule D1: each call answers, or is refused, exactly under the condition that part E has for it

-- tables of so many places have too few for a plan of this size
abbrev pub Short : Size → ℕ → ℕ → ℕ → Type 0
Short z rows firsts outcomes = (rows < z.n) ⊎ ((firsts < z.m) ⊎ (outcomes < z.t))

pub record Conditions : Type 0 where
  -- a file is refused for what it is before room is asked for
  pub reading_given : (rows firsts outcomes : ℕ) (file : List ℕ) (T : Tables) → (reading rows firsts outcomes file ≡ given T)
      ↔ ((p : Tree) × (read file ≡ given p) × (tables_of p ≡ T) × (Short T.size rows firsts outcomes → ⊥))
  pub reading_refused : (rows firsts outcomes : ℕ) (file : List ℕ) (r : Refusal) → (reading rows firsts outcomes file ≡ refused r)
      ↔ ((read file ≡ refused r) ⊎ ((p : Tree) × (read file ≡ given p) × Short (tables_of p).size rows firsts outcomes × (r ≡ Cramped)))
  pub writing_given : (T : Tables) (bytes : ℕ) (file : List ℕ) → (writing T bytes ≡ given file)
      ↔ (Sound T × (file_length T ≤ bytes) × (bytes_of (tree_of T) ≡ file))
  pub writing_refused : (T : Tables) (bytes : ℕ) (r : Refusal) → (writing T bytes ≡ refused r)
      ↔ (((Sound T → ⊥) × (r ≡ Unsound)) ⊎ (Sound T × (bytes < file_length T) × (r ≡ Cramped)))
  pub deciding_given : (T : Tables) (ranks commands marks scratch : ℕ) (P : Plan) → (deciding T ranks commands marks scratch ≡ given P)
      ↔ (Sound T × (T.size.n ≤ ranks) × (T.size.n ≤ commands) × (T.size.n ≤ marks) × (T.size.n ≤ scratch) × (plan_in T ≡ P))
  pub deciding_refused : (T : Tables) (ranks commands marks scratch : ℕ) (r : Refusal)
      → (deciding T ranks commands marks scratch ≡ refused r)
      ↔ (((Sound T → ⊥) × (r ≡ Unsound))
      ⊎ (Sound T × ((ranks < T.size.n) ⊎ ((commands < T.size.n) ⊎ ((marks < T.size.n) ⊎ (scratch < T.size.n)))) × (r ≡ Cramped)))
  pub searching_given : (T : Tables) (start commands scratch : ℕ) (R : Result) → (searching T start commands scratch ≡ given R)
      ↔ (Sound T × (start < T.size.n) × (T.size.n ≤ commands) × (T.size.n ≤ scratch) × (search (plan_in T) start ≡ R))
  pub searching_refused : (T : Tables) (start commands scratch : ℕ) (r : Refusal) → (searching T start commands scratch ≡ refused r)
      ↔ (((Sound T → ⊥) × (r ≡ Unsound)) ⊎ ((Sound T × (T.size.n ≤ start) × (r ≡ Stranger))
      ⊎ (Sound T × (start < T.size.n) × ((commands < T.size.n) ⊎ (scratch < T.size.n)) × (r ≡ Cramped))))
  pub contest_given : (T : Tables) (s k : ℕ) (held : Bool) → (contest_call T s k ≡ given held)
      ↔ (Sound T × (s < T.size.n) × (k ≤ max_moves) × (keeper_turn (plan_in T) k s ≡ held))
  pub contest_refused : (T : Tables) (s k : ℕ) (r : Refusal) → (contest_call T s k ≡ refused r)
      ↔ (((Sound T → ⊥) × (r ≡ Unsound)) ⊎ ((Sound T × (T.size.n ≤ s) × (r ≡ Stranger))
      ⊎ (Sound T × (s < T.size.n) × (max_moves < k) × (r ≡ Moves))))
  pub warning_given : (T : Tables) (s seconds : ℕ) (answer : Option Time) → (warning_call T s seconds ≡ given answer)
      ↔ (Sound T × (s < T.size.n) × (0 < seconds) × (seconds ≤ longest_move) × (warning (rank (plan_in T) s) seconds ≡ answer))
  pub warning_refused : (T : Tables) (s seconds : ℕ) (r : Refusal) → (warning_call T s seconds ≡ refused r)
      ↔ (((Sound T → ⊥) × (r ≡ Unsound)) ⊎ ((Sound T × (T.size.n ≤ s) × (r ≡ Stranger))
      ⊎ (Sound T × (s < T.size.n) × ((seconds ≡ 0) ⊎ (longest_move < seconds)) × (r ≡ Seconds))))
  pub trimming_given : (T : Tables) (rows firsts outcomes olds scratch : ℕ) (p : Tree) → let z = (trimmed (tree_of T)).size in
      (trimming T rows firsts outcomes olds scratch ≡ given p)
      ↔ (Sound T × (Short z rows firsts outcomes → ⊥) × (z.n ≤ olds) × (T.size.n ≤ scratch) × (tree_of T ≡ p))
  pub trimming_refused : (T : Tables) (rows firsts outcomes olds scratch : ℕ) (r : Refusal) → let z = (trimmed (tree_of T)).size in
      (trimming T rows firsts outcomes olds scratch ≡ refused r)
      ↔ (((Sound T → ⊥) × (r ≡ Unsound))
      ⊎ (Sound T × (Short z rows firsts outcomes ⊎ ((olds < z.n) ⊎ (scratch < T.size.n))) × (r ≡ Cramped)))
  pub carrying_given : (n : ℕ) (olds table : List ℕ) (places : ℕ) (entries : List ℕ) → (carrying n olds table places ≡ given entries)
      ↔ ((CarryUnsound n olds (length table) → ⊥) × (n ≤ places) × (carried n olds table ≡ entries))
  pub carrying_refused : (n : ℕ) (olds table : List ℕ) (places : ℕ) (r : Refusal) → (carrying n olds table places ≡ refused r)
      ↔ ((CarryUnsound n olds (length table) × (r ≡ Unsound)) ⊎ ((CarryUnsound n olds (length table) → ⊥) × (places < n) × (r ≡ Cramped)))

-- ---- rule D2: the definitions that compute say what the words say, and both round trips

pub record Meanings : Type 0 where
  -- the test that the calls compute
  pub sound_computed : (T : Tables) → (sound T ≡ true) ↔ Sound T
  -- lost: some layer of all holds the state; rank: the first that does
  pub lost_layer : (T : Tables) → Sound T → (s : ℕ) → s < T.size.n → (lost (plan_in T) s ≡ true)
      ↔ ((k : ℕ) × (layer (plan_in T) k s ≡ true))
  pub first_layer : (T : Tables) → Sound T → (s : ℕ) → s < T.size.n → (r : ℕ) → (rank (plan_in T) s ≡ some r)
      ↔ ((layer (plan_in T) r s ≡ true) × ((k : ℕ) → k < r → layer (plan_in T) k s ≡ false))
  -- rule W5: no rank is as high as the number of states
  pub rank_below : (T : Tables) → Sound T → (s : ℕ) → s < T.size.n → (r : ℕ) → rank (plan_in T) s ≡ some r → r < T.size.n
  pub least_solution : (T : Tables) → Sound T → LeastSolution (plan_in T)
  -- the practice if it has no outcome in K, else the lowest-numbered command that has none
  pub choice_words : (P : Plan) (K : ℕ → Bool) (s : ℕ) → active P s ≡ true → choice P K s
      ≡ cond (has_practice P s && not (hits P K s (P.practice s))) (some (P.practice s)) (lowest (λ c. not (hits P K s c)) (P.commands s))
  -- the practice fails: some run under it does
  pub practice_judged : (T : Tables) → Sound T → (s : ℕ) → s < T.size.n → (practice_fails (plan_in T) s ≡ true)
      ↔ Fails (plan_in T) s (positional (followed (plan_in T)) s)
  -- rule V16: the test answers the lowest outcome in the set, or that there is none
  pub hit_lowest : (P : Plan) (K : ℕ → Bool) (s c x : ℕ) → (hit P K s c ≡ some x) ↔ LowestHit P K s c x
  pub hit_none : (P : Plan) (K : ℕ → Bool) (s c : ℕ) → (hit P K s c ≡ none)
      ↔ ((x : ℕ) → Memᴰ x (P.outcomes s c) → K x ≡ false)
  -- rules V11 and V16: at a fault the lowest lost outcome of the practice is named
  pub fault_words : (P : Plan) (s : ℕ) → fault P s ≡ (safe P s && (has_practice P s && hits P (lost P) s (P.practice s)))
  pub fault_named : (P : Plan) (s x : ℕ)
      → (fault_outcome P s ≡ some x) ↔ ((fault P s ≡ true) × LowestHit P (lost P) s (P.practice s) x)
  -- rule L5: a number's bytes are decimal digits and tell it, and the first is 0 for the number 0 alone
  pub only_digits : (x i : ℕ) → i < length (decimal x) → (48 ≤ get_or (decimal x) i 0) × (get_or (decimal x) i 0 ≤ 57)
  pub number_told : (x : ℕ) → x < 1000000 → told 0 (decimal x) ≡ x
  pub zero_printed : decimal 0 ≡ 48 ∷ []
  pub no_zero_first : (x : ℕ) → 0 < x → x < 1000000 → get_or (decimal x) 0 0 ≡ 48 → ⊥
  -- rule L7: a state's line ends in the fault's word, which is a dot exactly where there is no fault, and tells the outcome where there is
  pub last_word : (P : Plan) (s : ℕ) → (front : List ℕ) × (state_line P s ≡ front ++ 32 ∷ (fault_sign (fault_outcome P s) ++ 10 ∷ []))
  pub fault_unprinted : (P : Plan) (s : ℕ) → (fault_sign (fault_outcome P s) ≡ 46 ∷ []) ↔ (fault P s ≡ false)
  pub fault_printed : (T : Tables) → Sound T → (s x : ℕ) → s < T.size.n → x < T.size.n
      → (fault_sign (fault_outcome (plan_in T) s) ≡ 33 ∷ decimal x)
      ↔ ((fault (plan_in T) s ≡ true) × LowestHit (plan_in T) (lost (plan_in T)) s ((plan_in T).practice s) x)
  -- some round is the last
  pub last_round : (T : Tables) → Sound T → (a : ℕ) → a < T.size.n → active (plan_in T) a ≡ true
      → lowest (ends (plan_in T) a) T.size.n ≡ some (before (plan_in T) a)
  -- rule D2c: a file that is read and written again has its own bytes; its length is the one that is written there
  pub read_write : (file : List ℕ) (rows : List Row) (firsts outcomes : List ℕ) → Bytes file → (z : Size)
      → (read_call file rows firsts outcomes).answers ≡ given z
      → (bytes : List ℕ) → length file ≤ length bytes
      → write_call (after_reading z file rows firsts outcomes) bytes ≡ record { answers = given (length file); bytes = overwrite file bytes }
  pub file_length_lem : (p : Tree) → length (bytes_of p) ≡ file_length (tables_of p)
  -- rule D2d: a sound plan that is written and read again, into tables that are long enough, is the same
  pub write_read : (T : Tables) (bytes : List ℕ) → Sound T → file_length T ≤ length bytes → (rows : List Row) (firsts outcomes : List ℕ)
      → T.size.n ≤ length rows → T.size.m ≤ length firsts → T.size.t ≤ length outcomes
      → let file = take (file_length T) (write_call T bytes).bytes in
      ((read_call file rows firsts outcomes).answers ≡ given T.size) × Same T (after_reading T.size file rows firsts outcomes)
  -- rules B1 and L11: the bench plans, and case A's listing
  pub bench_plans : map (λ b. judged b.file) benches ≡ map (λ b. b.says) benches
  pub case_a_listing_lem : listing case_a ≡ case_a_listing
  pub listing_length : (input : List ℕ) → length (listing input) ≤ max_listing

-- ---- rule D3: over all operating rules and whole runs, of the tables that the calls leave, and of the bytes that the C calls leave

pub record Rules : Type 0 where
  pub decided : (T : Tables) (ranks commands marks scratch : List ℕ) (counts : List (List ℕ))
      → let D = decide_call T ranks commands marks scratch in
      D.answers ≡ given counts → DecidingDemand3 T D.ranks D.commands
  pub searched : (T : Tables) (a : ℕ) (table space : List ℕ) (verdict : Bool) (rounds : ℕ) → let S = search_call T a table space in
      S.answers ≡ given (verdict, rounds) → SearchDemand3 T a verdict rounds S.commands
  pub gate_decided : (lent : Answer Tables) (T : Tables) → lent ≡ given T → (ranks commands marks scratch tally : List ℕ)
      → let D = gate_decide_call lent ranks commands marks scratch tally in
      D.returns ≡ 0 → DecidingDemand3 T (entries_in D.ranks) (entries_in D.commands)
  pub gate_searched : (lent : Answer Tables) (T : Tables) → lent ≡ given T → (a : ℕ) (table space answer : List ℕ)
      → let S = gate_search_call lent a table space answer in
      S.returns ≡ 0 → SearchDemand3 T a (verdict_in S.answer) (rounds_in S.answer) (entries_in S.commands)

-- ---- rules P9 and P10: what counts as failing, and what becomes of a stuck state

pub record Failings : Type 0 where
  -- rule P9: the states of kind failing and the stuck ones have rank 0, and no others
  pub rank_zero : (T : Tables) → Sound T → (s : ℕ) → s < T.size.n → (rank (plan_in T) s ≡ some 0)
      ↔ (((plan_in T).kind s ≡ 1) ⊎ (((plan_in T).kind s ≡ 0) × ((plan_in T).commands s ≡ 0)))
  -- rule D3h: stuck states are not in the bound on the rounds
  pub bound_counts : (P : Plan) → actives P + how_many (stuck P) P.states ≡ how_many (ordinary P) P.states
  -- rule P9: what is of kind rest is safe
  pub rest_safe : (T : Tables) → Sound T → (s : ℕ) → s < T.size.n → (plan_in T).kind s ≡ 2 → safe (plan_in T) s ≡ true
  -- rule P10: of a stuck state, by the definitions
  pub stuck_state : (T : Tables) → Sound T → (s : ℕ) → s < T.size.n → stuck (plan_in T) s ≡ true → StuckState (plan_in T) s
  -- rule L7: its line in a file's listing is its number and `o L 0 - F .`
  pub stuck_line : (file : List ℕ) (p : Tree) → read file ≡ given p → (s : ℕ) → s < (plan_of p).states → stuck (plan_of p) s ≡ true
      → state_line (plan_of p) s ≡ line (decimal s ∷ (111 ∷ []) ∷ (76 ∷ []) ∷ (48 ∷ []) ∷ (45 ∷ []) ∷ (70 ∷ []) ∷ (46 ∷ []) ∷ [])
  -- and in what the calls answer and leave, whatever they are lent beside the plan
  pub stuck_decided : (T : Tables) (ranks commands marks scratch : List ℕ) (counts : List (List ℕ))
      → let D = decide_call T ranks commands marks scratch in
      D.answers ≡ given counts
      → StuckCounted (plan_in T) (get_or (get_or counts 1 []) 2 0)
      × ((s : ℕ) → s < T.size.n → stuck (plan_in T) s ≡ true → StuckEntries D.ranks D.commands D.marks s)
  pub stuck_searched : (T : Tables) (s : ℕ) → s < T.size.n → stuck (plan_in T) s ≡ true
      → (a : ℕ) (table space : List ℕ) (verdict : Bool) (rounds : ℕ)
      → let S = search_call T a table space in
      S.answers ≡ given (verdict, rounds) → StuckSearched T.size.n s a verdict rounds S.commands
  pub stuck_contested : (T : Tables) (s : ℕ) → stuck (plan_in T) s ≡ true → (k : ℕ) (held : Bool)
      → contest_call T s k ≡ given held → held ≡ false
  pub stuck_warned : (T : Tables) (s : ℕ) → stuck (plan_in T) s ≡ true → (seconds : ℕ) (answer : Option Time)
      → warning_call T s seconds ≡ given answer → answer ≡ some no_time
  -- and in the bytes that the calls for C leave
  pub gate_stuck_decided : (lent : Answer Tables) (T : Tables) → lent ≡ given T → (ranks commands marks scratch tally : List ℕ)
      → let D = gate_decide_call lent ranks commands marks scratch tally in
      D.returns ≡ 0
      → StuckCounted (plan_in T) (get_or (entries_in D.tally) 5 0)
      × ((s : ℕ) → s < T.size.n → stuck (plan_in T) s ≡ true
      → StuckEntries (entries_in D.ranks) (entries_in D.commands) (entries_in D.marks) s)
  pub gate_stuck_searched : (lent : Answer Tables) (T : Tables) → lent ≡ given T → (s : ℕ) → s < T.size.n → stuck (plan_in T) s ≡ true
      → (a : ℕ) (table space answer : List ℕ)
      → let S = gate_search_call lent a table space answer in
      S.returns ≡ 0 → StuckSearched T.size.n s a (verdict_in S.answer) (rounds_in S.answer) (entries_in S.commands)

-- ---- part M: the contest, beside ranks, fewer moves and operating rules

pub record Contests : Type 0 where
  pub contested : (T : Tables) (s k : ℕ) (held : Bool) → contest_call T s k ≡ given held → Contested T s k held

-- ---- part W: the warning time, beside ranks and operating rules

pub record Warnings : Type 0 where
  pub warned : (T : Tables) (s seconds : ℕ) (answer : Option Time) → warning_call T s seconds ≡ given answer
      → Warned T s seconds answer

-- ---- part X: trimming, of the tables that it leaves

pub record Trimmings : Type 0 where
  pub trimmed_tables : (T : Tables) (rows : List Row) (firsts outcomes olds scratch : List ℕ) (z : Size)
      → let X = trim_call T rows firsts outcomes olds scratch in
      X.answers ≡ given z → Trimmed T (after_trimming z T rows firsts outcomes olds scratch) X.olds

-- ---- part Y: carrying back, of the table that it leaves

pub record Carryings : Type 0 where
  pub carried_back : (n : ℕ) (olds table places : List ℕ) → let C = carry_call n olds table places in
      C.answers ≡ given tt → Carried n olds table C.places
  -- rule Y5: a map that trimming left is never refused with the old n; it is answered if there is room
  pub map_fits : (T : Tables) (rows : List Row) (firsts outcomes olds scratch : List ℕ) (z : Size)
      → let X = trim_call T rows firsts outcomes olds scratch in
      X.answers ≡ given z → (table : List ℕ) → z.n ≤ length table
      → CarryUnsound T.size.n (take z.n X.olds) (length table) → ⊥
  pub map_accepted : (T : Tables) (rows : List Row) (firsts outcomes olds scratch : List ℕ) (z : Size)
      → let X = trim_call T rows firsts outcomes olds scratch in
      X.answers ≡ given z → (table places : List ℕ) → z.n ≤ length table → T.size.n ≤ length places
      → (carry_call T.size.n (take z.n X.olds) table places).answers ≡ given tt
  -- rule Y6: trimmed, decided and carried back, beside deciding the plan itself
  pub decided_back : (T : Tables) (rows : List Row) (firsts outcomes olds scratch : List ℕ) (z : Size)
      → let X = trim_call T rows firsts outcomes olds scratch in
      X.answers ≡ given z
      → (ranks commands marks scratch₀ ranks' commands' marks' scratch' : List ℕ) (counts counts' : List (List ℕ))
      → let D = decide_call T ranks commands marks scratch₀ in
      let E = decide_call (after_trimming z T rows firsts outcomes olds scratch) ranks' commands' marks' scratch' in
      D.answers ≡ given counts → E.answers ≡ given counts' → (places : List ℕ) → T.size.n ≤ length places
      → let C = carry_call T.size.n (take z.n X.olds) E.commands places in
      (C.answers ≡ given tt) × KeptOf T D.commands C.places
