-- When reading, writing, deciding and the search answer: with a file or plan that is right and tables that are long enough, and only then.
use mathlib.Core.Path.{◌≡◌, ap}
use mathlib.Core.Bool.{true}
use mathlib.Core.Logic.{◌↔◌}
use mathlib.Core.List.{List}
use Prim.Native.Nat.{ℕ, ◌<◌, ◌≤◌}
use Rattle.laws.proofs.TestFacts.{and_iff, leb_iff}
use Rattle.model.specs.Plan.{Plan}
use Rattle.model.specs.Search.{Result, search}
use Rattle.model.specs.Refusal.{Cramped, given, ◌>>=◌}
use Rattle.model.specs.File.{Tree, read}
use Rattle.model.specs.Bytes.{bytes_of}
use Rattle.model.specs.Tables.{Size, Tables, enough, tables_of, file_length}
use Rattle.model.specs.SoundTest.{sound}
use Rattle.model.specs.Held.{tree_of, plan_in}
use Rattle.model.specs.Calls.{reading, writing, deciding, searching}
use Rattle.model.proofs.Answers.{given_inj, need_iff, bind_inv}
use Rattle.model.proofs.StateCalls.{room_test, state_given, searching_tests}

pub record ReadAnswers (rows firsts outcomes : ℕ) (file : List ℕ) (T : Tables) : Type 0 where
  pub tree : Tree
  pub reads : read file ≡ given tree
  pub is : tables_of tree ≡ T
  pub long_rows : T.size.n ≤ rows
  pub long_firsts : T.size.m ≤ firsts
  pub long_outcomes : T.size.t ≤ outcomes

-- tables that are long enough
pub enough_iff : (z : Size) (rows firsts outcomes : ℕ)
    → (enough z rows firsts outcomes ≡ true) ↔ (((z.n ≤ rows) × (z.m ≤ firsts)) × (z.t ≤ outcomes))
enough_iff z rows firsts outcomes = (λ e. simp (and_iff, leb_iff) at e, λ h. simp (and_iff, leb_iff) h)

pub reading_iff : (rows firsts outcomes : ℕ) (file : List ℕ) (T : Tables)
    → (reading rows firsts outcomes file ≡ given T) ↔ ReadAnswers rows firsts outcomes file T
unfolding reading ◌>>=◌
reading_iff rows firsts outcomes file T = (
  λ e.
      let (p, r, f) = bind_inv (read file) _ e in
      let (long, q) = (need_iff _ _ _ _).0 f in
      let z : tables_of p ≡ T = given_inj q in
      let l = (enough_iff T.size rows firsts outcomes).0 (rw z at long) in
      record { tree = p; reads = r; is = z; long_rows = l.0.0; long_firsts = l.0.1; long_outcomes = l.1 },
  λ h.
      let long = (enough_iff T.size rows firsts outcomes).1 ((h.long_rows, h.long_firsts), h.long_outcomes) in
      rw h.reads ((need_iff _ _ _ _).1 (rw h.is long, ap given h.is)),
)

pub record WriteAnswers (T : Tables) (bytes : ℕ) (file : List ℕ) : Type 0 where
  pub sounds : sound T ≡ true
  pub long : file_length T ≤ bytes
  pub is : bytes_of (tree_of T) ≡ file

pub writing_iff : (T : Tables) (bytes : ℕ) (file : List ℕ) → (writing T bytes ≡ given file) ↔ WriteAnswers T bytes file
unfolding writing
writing_iff T bytes file = (
  λ e.
      let (s, f) = (need_iff _ _ _ _).0 e in
      let (l, q) = (need_iff _ _ _ _).0 f in
      record { sounds = s; long = (leb_iff _ _).0 l; is = given_inj q },
  λ h. (need_iff _ _ _ _).1 (h.sounds, (need_iff _ _ _ _).1 ((leb_iff _ _).1 h.long, ap given h.is)),
)

pub record DecideAnswers (T : Tables) (ranks commands marks scratch : ℕ) (P : Plan) : Type 0 where
  pub sounds : sound T ≡ true
  pub long_ranks : T.size.n ≤ ranks
  pub long_commands : T.size.n ≤ commands
  pub long_marks : T.size.n ≤ marks
  pub long_scratch : T.size.n ≤ scratch
  pub is : plan_in T ≡ P

pub deciding_iff : (T : Tables) (ranks commands marks scratch : ℕ) (P : Plan)
    → (deciding T ranks commands marks scratch ≡ given P) ↔ DecideAnswers T ranks commands marks scratch P
unfolding deciding
deciding_iff T ranks commands marks scratch P = (
  λ e.
      let (s, f) = (need_iff _ _ _ _).0 e in
      let (l, q) = (need_iff _ _ _ _).0 f in
      let h = simp (and_iff, leb_iff) at l in
      record {
        sounds = s;
        long_ranks = h.0.0.0;
        long_commands = h.0.0.1;
        long_marks = h.0.1;
        long_scratch = h.1;
        is = given_inj q;
      },
  λ h.
      (need_iff _ _ _ _).1 (
        h.sounds,
        (need_iff _ _ _ _).1 (
          simp (and_iff, leb_iff) (((h.long_ranks, h.long_commands), h.long_marks), h.long_scratch),
          ap given h.is,
        ),
      ),
)

pub record SearchAnswers (T : Tables) (start commands scratch : ℕ) (R : Result) : Type 0 where
  pub sounds : sound T ≡ true
  pub inside : start < T.size.n
  pub long_commands : T.size.n ≤ commands
  pub long_scratch : T.size.n ≤ scratch
  pub is : search (plan_in T) start ≡ R

pub searching_iff : (T : Tables) (start commands scratch : ℕ) (R : Result)
    → (searching T start commands scratch ≡ given R) ↔ SearchAnswers T start commands scratch R
searching_iff T start commands scratch R = rw (searching_tests T start commands scratch) (
  λ e.
      let (s, b, l, q) = (state_given T start Cramped (room_test T commands scratch) (search (plan_in T) start) R).0 e in
      let h = simp (and_iff, leb_iff) at l in
      record { sounds = s; inside = b; long_commands = h.0; long_scratch = h.1; is = q },
  λ h.
      (state_given T start Cramped (room_test T commands scratch) (search (plan_in T) start) R).1
      (h.sounds, h.inside, simp (and_iff, leb_iff) (h.long_commands, h.long_scratch), h.is),
)
