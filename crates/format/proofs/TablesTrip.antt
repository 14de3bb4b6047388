-- Tables that are written and read again, by the contracts of the two calls.
use mathlib.Core.Path.{◌≡◌, refl, sym, ap, subst, ◌∙◌}
use mathlib.Core.List.{List}
use Prim.Native.Nat.{ℕ, ◌≤◌}
use native.Mathlib.Omega.{arith}
use lib.ListN.{length, take, length-map}
use Rattle.std.specs.Prelude.{Result, Ok, Err}
use Rattle.model.specs.Refusal.{given, refused, answer}
use Rattle.model.specs.Bytes.{bytes_of}
use Rattle.model.specs.Tables.{Tables, Same, file_length}
use Rattle.model.specs.Sound.{Sound}
use Rattle.model.specs.Held.{tree_of}
use Rattle.model.specs.Calls.{AfterWrite, writing, read_call, write_call}
use Rattle.model.proofs.Answers.{answer_inv}
use Rattle.model.proofs.Answering.{writing_iff}
use Rattle.model.proofs.Soundness.{sound_iff}
use Rattle.model.proofs.RoundTrips.{write_read, written_length}
use Rattle.tables.specs.declared.Size.{Size}
use Rattle.tables.specs.declared.Row.{Row}
use Rattle.tables.specs.declared.Refusal.{Refusal}
use Rattle.tables.specs.Meaning.{numbers, refusal_of, row_of, rows_of, held}
use Rattle.reading.specs.Answers.{after_read, answer_of as readAnswer}
use Rattle.writing.specs.Answers.{answer_of as writeAnswer, after_write}
use Rattle.format.specs.Trips.{AfterWriteRead, then_read, write_read_call}
use Rattle.format.specs.Meaning.{after_write_read}

-- what is written fits the bytes lent
pub written_fits : (T : Tables) (bytes : List ℕ) (w : Result ℕ Refusal) {bytes' : List ℕ} (k : ℕ) → after_write w bytes' ≡ write_call T bytes → w
    ≡ Ok k → k ≤ length bytes
written_fits T bytes w k e q =
    let (file, written, count) = answer_inv length (writing T (length bytes)) k
    (ap (λ (x : AfterWrite). x.answers) (sym e) ∙ ap writeAnswer q) in
    omega (arith, count, written_length T (length bytes) file written, ((writing_iff T (length bytes) file).0 written).long)

module _ (z : Size) (rows : List Row) (firsts outcomes bytes : List ℕ) (rows2 : List Row) (firsts2 outcomes2 : List ℕ) where
  abbrev T : Tables
  T = held z rows firsts outcomes

  abbrev whole : AfterWriteRead
  whole = write_read_call T bytes (rows_of rows2) firsts2 outcomes2

  trip : Sound T → file_length T ≤ length bytes → z.n ≤ length rows2 → z.m ≤ length firsts2 → z.t ≤ length outcomes2
      → (whole.answers ≡ given T.size)
      × Same T (record { size = T.size; rows = whole.rows; firsts = whole.firsts; outcomes = whole.outcomes })
  unfolding then_read answer
  trip s room long_rows long_firsts long_outcomes =
      let file = bytes_of (tree_of T) in
      let written = (writing_iff T (length bytes) file).1 (record { sounds = (sound_iff T).1 s; long = room; is = refl }) in
      let e : (write_call T bytes).answers ≡ given (length file) = rw written refl in
      rw e (write_read T bytes (length file) e (rows_of rows2) firsts2 outcomes2 (rw (length-map rows2 row_of) long_rows) long_firsts
      long_outcomes)

  -- both clauses
  abbrev Says : Result Size Refusal → List ℕ → List Row → List ℕ → List ℕ → Type 0
  Says r bytes' rows' firsts' outcomes' =
      (after_write_read r bytes' rows' firsts' outcomes' ≡ whole)
      × (Sound T → file_length T ≤ length bytes → z.n ≤ length rows2 → z.m ≤ length firsts2 → z.t ≤ length outcomes2
      → (readAnswer r ≡ given T.size) × Same T (held z rows' firsts' outcomes'))

  says : (r : Result Size Refusal) (bytes' : List ℕ) (rows' : List Row) (firsts' outcomes' : List ℕ)
      → after_write_read r bytes' rows' firsts' outcomes' ≡ whole → Says r bytes' rows' firsts' outcomes'
  says r bytes' rows' firsts' outcomes' e = (
    e,
    λ s room long_rows long_firsts long_outcomes.
        let (answers, same) = trip s room long_rows long_firsts long_outcomes in
        let left : record { size = T.size; rows = whole.rows; firsts = whole.firsts; outcomes = whole.outcomes }
        ≡ held z rows' firsts' outcomes'
        = λ i. record { size = numbers z; rows = (sym e i).rows; firsts = (sym e i).firsts; outcomes = (sym e i).outcomes } in
        (ap (λ (x : AfterWriteRead). x.answers) e ∙ answers, subst (λ (U : Tables). Same T U) left same),
  )

  -- the equation of the writing's contract
  module _ (w : Result ℕ Refusal) (bytes' : List ℕ) (f : after_write w bytes' ≡ write_call T bytes) where
    a : writeAnswer w ≡ (write_call T bytes).answers
    a = ap (λ (x : AfterWrite). x.answers) f

    s : bytes' ≡ (write_call T bytes).bytes
    s = ap (λ (x : AfterWrite). x.bytes) f

    pub tables_refused : (x : Refusal) → w ≡ Err x → Says (Err x) bytes' rows2 firsts2 outcomes2
    unfolding then_read
    tables_refused x q =
        let d : (write_call T bytes).answers ≡ refused (refusal_of x) = sym a ∙ ap writeAnswer q in
        let kept : record { answers = refused (refusal_of x); rows = rows_of rows2; firsts = firsts2; outcomes = outcomes2 }
        ≡ then_read (write_call T bytes) (write_call T bytes).answers (rows_of rows2) firsts2 outcomes2
        = rw d refl in
        says (Err x) bytes' rows2 firsts2 outcomes2
        (λ i. record { answers = (kept i).answers; bytes = s i; rows = (kept i).rows; firsts = (kept i).firsts; outcomes = (kept i).outcomes })

    -- with that of the reading's
    pub tables_read : (k : ℕ) → w ≡ Ok k → (r : Result Size Refusal) (rows' : List Row) (firsts' outcomes' : List ℕ)
        → after_read r rows' firsts' outcomes' ≡ read_call (take k bytes') (rows_of rows2) firsts2 outcomes2
        → Says r bytes' rows' firsts' outcomes'
    unfolding then_read
    tables_read k q r rows' firsts' outcomes' e =
        let d : (write_call T bytes).answers ≡ given k = sym a ∙ ap writeAnswer q in
        let read : after_read r rows' firsts' outcomes'
        ≡ then_read (write_call T bytes) (write_call T bytes).answers (rows_of rows2) firsts2 outcomes2
        = rw d (e ∙ ap (λ (f : List ℕ). read_call (take k f) (rows_of rows2) firsts2 outcomes2) s) in
        says r bytes' rows' firsts' outcomes'
        (λ i. record { answers = (read i).answers; bytes = s i; rows = (read i).rows; firsts = (read i).firsts; outcomes = (read i).outcomes })
