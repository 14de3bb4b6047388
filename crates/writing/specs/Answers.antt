-- What a writing answers and leaves, in the model's words.
use Rattle.std.specs.Prelude.{List, ℕ, Result}
use Rattle.model.specs.Refusal.{Answer}
use Rattle.model.specs.Calls.{AfterWrite}
use Rattle.tables.specs.declared.Refusal.{Refusal}
use Rattle.tables.specs.Meaning.{answered}

-- the file's length, or the refusal
abbrev pub answer_of : Result ℕ Refusal → Answer ℕ
answer_of = answered (λ k. k)

-- and what the bytes lent hold
abbrev pub after_write : Result ℕ Refusal → List ℕ → AfterWrite
after_write r bytes = record { answers = answer_of r; bytes = bytes }
