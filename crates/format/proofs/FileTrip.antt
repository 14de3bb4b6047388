-- A file that is read and written again, by the contracts of the two calls.
use mathlib.Core.Path.{◌≡◌, refl, sym, ap, ◌∙◌}
use mathlib.Core.List.{List}
use Prim.Native.Nat.{ℕ, ◌≤◌}
use lib.ListN.{length}
use Rattle.std.specs.Prelude.{Result, Ok, Err}
use Rattle.laws.specs.Entry.{Bytes}
use Rattle.laws.specs.Lists.{overwrite}
use Rattle.model.specs.Refusal.{given, refused}
use Rattle.model.specs.Tables.{Size as ModelSize, Tables}
use Rattle.model.specs.Calls.{AfterRead, AfterWrite, read_call, write_call}
use Rattle.model.proofs.RoundTrips.{read_write}
use Rattle.tables.specs.declared.Size.{Size}
use Rattle.tables.specs.declared.Row.{Row}
use Rattle.tables.specs.declared.Refusal.{Refusal}
use Rattle.tables.specs.Meaning.{refusal_of, rows_of, held}
use Rattle.reading.specs.Answers.{after_read, answer_of as readAnswer}
use Rattle.reading.proofs.Leaves.{answered, leaves}
use Rattle.writing.specs.Answers.{answer_of as writeAnswer, after_write}
use Rattle.format.specs.Trips.{AfterReadWrite, then_write, read_write_call}
use Rattle.format.specs.Meaning.{after_read_write}

module _ (file : List ℕ) (rows : List Row) (firsts outcomes bytes : List ℕ) (b : Bytes file) where
  trip : (z : ModelSize) → (read_call file (rows_of rows) firsts outcomes).answers ≡ given z → length file ≤ length bytes
      → let x = read_write_call file (rows_of rows) firsts outcomes bytes in
      (x.answers ≡ given (length file)) × (x.bytes ≡ overwrite file bytes)
  unfolding then_write
  trip z e h =
      let w = read_write file (rows_of rows) firsts outcomes b z e bytes h in
      rw e (ap (λ (x : AfterWrite). x.answers) w, ap (λ (x : AfterWrite). x.bytes) w)

  -- both clauses
  abbrev Says : Result ℕ Refusal → List Row → List ℕ → List ℕ → List ℕ → Type 0
  Says w rows' firsts' outcomes' bytes' =
      (after_read_write w rows' firsts' outcomes' bytes' ≡ read_write_call file (rows_of rows) firsts outcomes bytes)
      × ((z : ModelSize) → (read_call file (rows_of rows) firsts outcomes).answers ≡ given z → length file ≤ length bytes
      → (writeAnswer w ≡ given (length file)) × (bytes' ≡ overwrite file bytes))

  says : (w : Result ℕ Refusal) (rows' : List Row) (firsts' outcomes' bytes' : List ℕ)
      → after_read_write w rows' firsts' outcomes' bytes' ≡ read_write_call file (rows_of rows) firsts outcomes bytes
      → Says w rows' firsts' outcomes' bytes'
  says w rows' firsts' outcomes' bytes' e = (
    e,
    λ z answers long.
        let (count, same) = trip z answers long in
        (ap (λ (x : AfterReadWrite). x.answers) e ∙ count, ap (λ (x : AfterReadWrite). x.bytes) e ∙ same),
  )

  -- the equation of the reading's contract
  module _ (r : Result Size Refusal) (rows' : List Row) (firsts' outcomes' : List ℕ)
      (e : after_read r rows' firsts' outcomes' ≡ read_call file (rows_of rows) firsts outcomes) where
    pub file_refused : (x : Refusal) → r ≡ Err x → Says (Err x) rows' firsts' outcomes' bytes
    unfolding then_write
    file_refused x q =
        let d : (read_call file (rows_of rows) firsts outcomes).answers ≡ refused (refusal_of x) = ap (λ (y : AfterRead). y.answers) (sym e)
        ∙ ap readAnswer q in
        let answers : refused (refusal_of x) ≡ (read_write_call file (rows_of rows) firsts outcomes bytes).answers = rw d refl in
        let kept : bytes ≡ (read_write_call file (rows_of rows) firsts outcomes bytes).bytes = rw d refl in
        says (Err x) rows' firsts' outcomes' bytes
        (λ i. record { answers = answers i; rows = (e i).rows; firsts = (e i).firsts; outcomes = (e i).outcomes; bytes = kept i })

    -- with that of the writing's
    pub file_written : (z : Size) → r ≡ Ok z → (w : Result ℕ Refusal) (bytes' : List ℕ)
        → after_write w bytes' ≡ write_call (held z rows' firsts' outcomes') bytes → Says w rows' firsts' outcomes' bytes'
    unfolding then_write
    file_written z q w bytes' f =
        let d = answered file rows firsts outcomes r rows' firsts' outcomes' e z q in
        let T = leaves file rows firsts outcomes r rows' firsts' outcomes' e z in
        let x = read_call file (rows_of rows) firsts outcomes in
        let g : after_write w bytes' ≡ then_write x x.answers bytes = rw d (f ∙ ap (λ (U : Tables). write_call U bytes) T) in
        says w rows' firsts' outcomes' bytes'
        (λ i. record { answers = (g i).answers; rows = (e i).rows; firsts = (e i).firsts; outcomes = (e i).outcomes; bytes = (g i).bytes })
