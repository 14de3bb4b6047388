-- What a call for C returns.
use Rattle.std.specs.Prelude.{ℕ, Result, Ok, Err}
use Rattle.model.specs.Refusal.{number}
use Rattle.tables.specs.declared.Refusal.{Refusal}
use Rattle.tables.specs.Meaning.{refusal_of}

-- 0, or the number of the refusal
abbrev pub code_of : Result (Unit {0}) Refusal → ℕ
code_of (Ok u) = 0
code_of (Err r) = number (refusal_of r)
