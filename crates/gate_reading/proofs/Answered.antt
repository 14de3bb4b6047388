-- A reading by way of tables of the limits' lengths: what it leaves in the slices lent, by the way that it ends.
use mathlib.Core.Path.{◌≡◌, sym, ap, ◌∙◌}
use mathlib.Core.List.{List}
use mathlib.Core.Bool.{Bool, true, false}
use Prim.Native.Nat.{ℕ, ◌*◌, ◌<◌, ◌≤◌}
use native.Mathlib.Omega.{arith}
use lib.ListN.{length, take, length-map}
use Rattle.laws.specs.Lists.{overwrite}
use Rattle.laws.proofs.Overwrites.{overwrite_holds, overwrite_long}
use Rattle.std.specs.Prelude.{Result, Ok, Err}
use Rattle.model.specs.Refusal.{Answer, Refusal as ModelRefusal, given, refused, answer, need, number, ◌>>=◌, ◌>>◌}
use Rattle.model.specs.Rooms.{read_room}
use Rattle.model.specs.File.{max_states, max_commands, max_outcomes}
use Rattle.model.specs.Tables.{Size as ModelSize, Row as ModelRow, Tables}
use Rattle.model.specs.Calls.{AfterRead, left, read_call}
use Rattle.model.specs.Boundary.{row_bytes, entry_bytes, bytes_for, row_entries, size_entries, code, gate_read, gate_read_call, size_bytes}
use Rattle.model.proofs.Answers.{answer_inv}
use Rattle.model.proofs.Gating.{Gated, gate_read_size, gate_read_inv}
use Rattle.tables.specs.declared.Row.{Row}
use Rattle.tables.specs.declared.Size.{Size}
use Rattle.tables.specs.declared.Refusal.{Refusal}
use Rattle.tables.specs.Meaning.{row_of, rows_of, numbers, refusal_of}
use Rattle.tables.specs.declared.Refusal.TheVariants.{Cramped}
use Rattle.reading.specs.Answers.{answer_of, after_read}
use Rattle.reading.proofs.Passing.{refused_inv}
use Rattle.gate_reading.specs.Lent.{admitted, after_gate_read}

-- a reading by way of other tables, which hold every plan
pub record Read (file size rows firsts outcomes : List ℕ) (plan : Result Size Refusal) (states' : List Row) (commands' entries' : List ℕ)
    : Type 0 where
  pub states : List ModelRow
  pub commands : List ℕ
  pub entries : List ℕ
  pub reads : after_read plan states' commands' entries' ≡ read_call file states commands entries
  pub limits : (max_states ≤ length states) × (max_commands ≤ length commands) × (max_outcomes ≤ length entries)

module _ {file size rows firsts outcomes : List ℕ} {plan : Result Size Refusal} {states' : List Row} {commands' entries' : List ℕ}
    (r : Read file size rows firsts outcomes plan states' commands' entries') where
  abbrev gate : Answer Tables
  gate = gate_read file (length size) (length rows) (length firsts) (length outcomes)

  -- what the call returns and leaves
  abbrev Leaves : ℕ → List ℕ → List ℕ → List ℕ → List ℕ → Type 0
  Leaves k size' rows' firsts' outcomes' = after_gate_read k size' rows' firsts' outcomes' ≡ gate_read_call file size rows firsts outcomes

  answers : admitted (answer_of plan) (length size) (length rows) (length firsts) (length outcomes) ≡ answer (λ T. T.size) gate
  answers =
      ap (λ (a : Answer ModelSize). admitted a (length size) (length rows) (length firsts) (length outcomes))
      (ap (λ (x : AfterRead). x.answers) r.reads)
      ∙ sym (gate_read_size file r.limits.0 r.limits.1 r.limits.2 (length size) (length rows) (length firsts) (length outcomes))

  stops : {q : ModelRefusal} → gate ≡ refused q → Leaves (number q) size rows firsts outcomes
  unfolding left code
  stops e = rw e

  pub refuses : {w : Refusal} → plan ≡ Err w → Leaves (number (refusal_of w)) size rows firsts outcomes
  unfolding ◌>>=◌
  refuses told = stops (refused_inv (λ T. T.size) gate (sym answers ∙ rw told))

  module _ {z : Size} (told : plan ≡ Ok z) {fits : Bool}
      (test : fits ≡ read_room (numbers z) (length size) (length rows) (length firsts) (length outcomes)) where
    pub cramps : fits ≡ false → Leaves (number (refusal_of Cramped)) size rows firsts outcomes
    unfolding ◌>>=◌ ◌>>◌ need
    cramps short = stops {q = refusal_of Cramped} (refused_inv (λ T. T.size) gate (sym answers ∙ rw (told, ← test, short)))

    module _ (yes : fits ≡ true) where
      tables : (T : Tables) × (gate ≡ given T) × (T.size ≡ numbers z)
      unfolding ◌>>=◌ ◌>>◌ need
      tables = answer_inv (λ T. T.size) gate (numbers z) (sym answers ∙ rw (told, ← test, yes))

      gated : Gated file r.limits.0 r.limits.1 r.limits.2 (length size) (length rows) (length firsts) (length outcomes) tables.0
      gated = gate_read_inv file r.limits.0 r.limits.1 r.limits.2 (length size) (length rows) (length firsts) (length outcomes)
          tables.0 tables.1

      -- the tables' counts are those of the size record
      n_is : tables.0.size.n ≡ z.n
      n_is = ap (λ (y : ModelSize). y.n) tables.2

      m_is : tables.0.size.m ≡ z.m
      m_is = ap (λ (y : ModelSize). y.m) tables.2

      t_is : tables.0.size.t ≡ z.t
      t_is = ap (λ (y : ModelSize). y.t) tables.2

      -- what was read into each table
      in_states : (rows_of states' ≡ overwrite tables.0.rows r.states) × (length tables.0.rows ≡ z.n)
      unfolding left
      in_states = (rw gated.reads at (ap (λ (x : AfterRead). x.rows) r.reads), gated.small.rows ∙ n_is)

      in_commands : (commands' ≡ overwrite tables.0.firsts r.commands) × (length tables.0.firsts ≡ z.m)
      unfolding left
      in_commands = (rw gated.reads at (ap (λ (x : AfterRead). x.firsts) r.reads), gated.small.firsts ∙ m_is)

      in_entries : (entries' ≡ overwrite tables.0.outcomes r.entries) × (length tables.0.outcomes ≡ z.t)
      unfolding left
      in_entries = (rw gated.reads at (ap (λ (x : AfterRead). x.outcomes) r.reads), gated.small.outcomes ∙ t_is)

      pub rows_ready : (z.n ≤ length states') × (z.n * row_bytes ≤ length rows)
      rows_ready =
          let few : z.n ≤ length r.states = omega (arith, r.limits.0, gated.small.few_states, n_is) in
          let l = overwrite_long tables.0.rows r.states in_states.0 in_states.1 few in
          (omega (arith, length-map states' row_of), omega (arith, gated.long_rows, n_is))

      pub lists_ready : ((size_bytes ≤ length size) × (z.n < 65536) × (z.m < 65536) × (z.t < 65536) × (z.start < 65536))
          × (((z.m ≤ length commands') × (z.m * entry_bytes ≤ length firsts))
          × ((z.t ≤ length entries') × (z.t * entry_bytes ≤ length outcomes)))
      lists_ready =
          let s = gated.small in
          let start : tables.0.size.start ≡ z.start = ap (λ (y : ModelSize). y.start) tables.2 in
          let n : z.n ≤ max_states = omega (arith, s.few_states, n_is) in
          let m : z.m ≤ max_commands = omega (arith, s.few_commands, m_is) in
          let t : z.t ≤ max_outcomes = omega (arith, s.few_outcomes, t_is) in
          let f = overwrite_long tables.0.firsts r.commands in_commands.0 in_commands.1 (omega (arith, r.limits.1)) in
          let o = overwrite_long tables.0.outcomes r.entries in_entries.0 in_entries.1 (omega (arith, r.limits.2)) in (
            (gated.long_size, omega arith, omega arith, omega arith, omega (arith, s.inside, s.few_states)),
            ((f, omega (arith, gated.long_firsts, m_is)), (o, omega (arith, gated.long_outcomes, t_is))),
          )

      pub gives : {size' rows' firsts' outcomes' : List ℕ} → rows' ≡ overwrite (bytes_for (row_entries (take z.n (rows_of states')))) rows
          → (size' ≡ overwrite (bytes_for (size_entries (numbers z))) size)
          × ((firsts' ≡ overwrite (bytes_for (take z.m commands')) firsts)
          × (outcomes' ≡ overwrite (bytes_for (take z.t entries')) outcomes))
          → Leaves 0 size' rows' firsts' outcomes'
      unfolding left code
      gives d l =
          let size_is = l.0 ∙ ap (λ (y : ModelSize). overwrite (bytes_for (size_entries y)) size) (sym tables.2) in
          let rows_is = d ∙ ap (λ (y : List ModelRow). overwrite (bytes_for (row_entries y)) rows)
          (overwrite_holds tables.0.rows r.states in_states.0 in_states.1) in
          let firsts_is = l.1.0 ∙ ap (λ (y : List ℕ). overwrite (bytes_for y) firsts)
          (overwrite_holds tables.0.firsts r.commands in_commands.0 in_commands.1) in
          let outcomes_is = l.1.1
          ∙ ap (λ (y : List ℕ). overwrite (bytes_for y) outcomes)
          (overwrite_holds tables.0.outcomes r.entries in_entries.0 in_entries.1) in
          rw tables.1 (λ i. after_gate_read 0 (size_is i) (rows_is i) (firsts_is i) (outcomes_is i))
