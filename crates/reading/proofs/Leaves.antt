-- A reading that answered, by the equation of the call's contract.
use mathlib.Core.Path.{◌≡◌, sym, ap, ◌∙◌}
use mathlib.Core.List.{List}
use Prim.Native.Nat.{ℕ}
use Rattle.std.specs.Prelude.{Result, Ok}
use Rattle.model.specs.Refusal.{given}
use Rattle.model.specs.Calls.{AfterRead, read_call, after_reading}
use Rattle.tables.specs.declared.Size.{Size}
use Rattle.tables.specs.declared.Row.{Row}
use Rattle.tables.specs.declared.Refusal.{Refusal}
use Rattle.tables.specs.Meaning.{numbers, rows_of, held}
use Rattle.reading.specs.Answers.{answer_of, after_read}

module _ (file : List ℕ) (rows : List Row) (firsts outcomes : List ℕ) (r : Result Size Refusal) (rows' : List Row) (firsts' outcomes' : List ℕ)
    (e : after_read r rows' firsts' outcomes' ≡ read_call file (rows_of rows) firsts outcomes) where
  pub answered : (z : Size) → r ≡ Ok z → (read_call file (rows_of rows) firsts outcomes).answers ≡ given (numbers z)
  answered z q = ap (λ (x : AfterRead). x.answers) (sym e) ∙ ap answer_of q

  -- the tables that it leaves, with a size record
  pub leaves : (z : Size) → held z rows' firsts' outcomes' ≡ after_reading (numbers z) file (rows_of rows) firsts outcomes
  leaves z = λ i. record { size = numbers z; rows = (e i).rows; firsts = (e i).firsts; outcomes = (e i).outcomes }
