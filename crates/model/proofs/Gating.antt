-- The C program's reading, by way of tables of the limits' lengths: those are never too short, so that only the slices lent are tested.
use mathlib.Core.Path.{◌≡◌, refl, ap, ◌∙◌}
use mathlib.Core.Bool.{Bool, true, false, ◌&&◌}
use mathlib.Core.List.{List}
use Prim.Native.Nat.{ℕ, ◌*◌, ◌/◌, ◌<◌, ◌≤◌}
use native.Mathlib.Omega.{arith}
use lib.Dec.{leb}
use lib.ListN.{length}
use borrow.Author.Tests.{le-leb, leb-true}
use Rattle.laws.proofs.Parts.{length_heads}
use Rattle.model.specs.Refusal.{Cramped, Answer, given, refused, answer, need, ◌>>=◌, ◌>>◌}
use Rattle.model.specs.File.{Tree, max_states, max_commands, max_outcomes, read}
use Rattle.model.specs.Tables.{Tables, enough, all_commands, tables_of}
use Rattle.model.specs.Calls.{reading}
use Rattle.model.specs.Boundary.{entry_bytes, row_bytes, size_bytes, gate_read}
use Rattle.model.specs.Rooms.{read_room}
use Rattle.model.proofs.Answers.{bind_inv, need_inv}
use Rattle.model.proofs.Answering.{reading_iff}
use Rattle.model.proofs.Layouts.{by_state_lem, by_command_lem}
use Rattle.model.proofs.Readings.{read_inv, states_count, few_commands, few_outcomes}

-- the tables of a file keep the limits, and have as many places as the size record counts
pub record Small (T : Tables) : Type 0 where
  pub few_states : T.size.n ≤ max_states
  pub few_commands : T.size.m ≤ max_commands
  pub few_outcomes : T.size.t ≤ max_outcomes
  pub inside : T.size.start < T.size.n
  pub rows : length T.rows ≡ T.size.n
  pub firsts : length T.firsts ≡ T.size.m
  pub outcomes : length T.outcomes ≡ T.size.t

small : (file : List ℕ) (p : Tree) → read file ≡ given p → Small (tables_of p)
unfolding tables_of
small file p e =
    let r = read_inv file p e in
    let n = states_count r.stated in
    record {
      few_states = omega (arith, r.headed.few);
      few_commands = omega (arith, few_commands r.stated (omega arith));
      few_outcomes = omega (arith, few_outcomes r.stated (omega arith));
      inside = omega (arith, r.headed.inside);
      rows = length_heads by_state_lem 0 p.states;
      firsts = length_heads by_command_lem 0 (all_commands p.states);
      outcomes = refl;
    }

-- two tests, one after the other, are one
both_tests : (T : Tables) (a b : Bool)
    → answer (λ T. T.size) ((need Cramped a >> given T) >>= λ U. need Cramped b >> given U) ≡ (need Cramped (a && b) >> given T.size)
unfolding need ◌>>◌ ◌>>=◌ answer
both_tests T true true = refl
both_tests T true false = refl
both_tests T false b = refl

module _ (file : List ℕ) {R F O : ℕ} (all_rows : max_states ≤ R) (All-firsts : max_commands ≤ F) (all_outcomes : max_outcomes ≤ O) where
  -- tables of the limits' lengths are long enough for every file
  pub reading_all : reading R F O file ≡ answer tables_of (read file)
  unfolding reading ◌>>=◌ need ◌>>◌ answer
  reading_all = go (read file) refl
    where
      go : (x : Answer Tree) → read file ≡ x
          → (x >>= λ p. need Cramped (enough (tables_of p).size R F O) >> given (tables_of p))
          ≡ answer tables_of x
      go (refused r) e = refl
      go (given p) e =
          let s = small file p e in
          rw (
            le-leb (tables_of p).size.n R (omega (arith, s.few_states)),
            le-leb (tables_of p).size.m F (omega (arith, s.few_commands)),
            le-leb (tables_of p).size.t O (omega (arith, s.few_outcomes)),
          )

  module _ (size rows firsts outcomes : ℕ) where
    -- the size record is answered if it was read and the slices have room
    pub gate_read_size : answer (λ T. T.size) (gate_read file size rows firsts outcomes)
        ≡ (answer (λ T. T.size) (reading R F O file) >>= λ z. need Cramped (read_room z size rows firsts outcomes) >> given z)
    unfolding gate_read reading ◌>>=◌ answer
    gate_read_size = rw reading_all (go (read file))
      where
        go : (x : Answer Tree)
            → answer (λ T. T.size) ((x >>= λ p. need Cramped
            (enough (tables_of p).size (rows / row_bytes) (firsts / entry_bytes) (outcomes / entry_bytes)) >> given (tables_of p)) >>= λ T.
            need Cramped (leb size_bytes size) >> given T)
            ≡ (answer (λ T. T.size) (answer tables_of x) >>= λ z. need Cramped (read_room z size rows firsts outcomes) >> given z)
        go (refused r) = refl
        go (given p) = both_tests (tables_of p) (enough (tables_of p).size (rows / row_bytes) (firsts / entry_bytes) (outcomes / entry_bytes))
            (leb size_bytes size)

    -- what was read, if the slices have room for it
    pub record Gated (T : Tables) : Type 0 where
      pub reads : reading R F O file ≡ given T
      pub small : Small T
      pub long_size : size_bytes ≤ size
      pub long_rows : T.size.n * row_bytes ≤ rows
      pub long_firsts : T.size.m * entry_bytes ≤ firsts
      pub long_outcomes : T.size.t * entry_bytes ≤ outcomes

    pub gate_read_inv : (T : Tables) → gate_read file size rows firsts outcomes ≡ given T → Gated T
    unfolding gate_read answer
    gate_read_inv T e =
        let (U, r, f) = bind_inv (reading (rows / row_bytes) (firsts / entry_bytes) (outcomes / entry_bytes) file) _ e in
        let (l, g) = need_inv Cramped (leb size_bytes size) (given U) f in
        let a = (reading_iff (rows / row_bytes) (firsts / entry_bytes) (outcomes / entry_bytes) file T).0 (r ∙ g) in
        record {
          reads = reading_all ∙ rw a.reads (ap given a.is);
          small = rw a.is at (small file a.tree a.reads);
          long_size = leb-true size_bytes size l;
          long_rows = omega (arith, a.long_rows);
          long_firsts = omega (arith, a.long_firsts);
          long_outcomes = omega (arith, a.long_outcomes);
        }
