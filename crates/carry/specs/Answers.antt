-- What the answer of carrying back stands for.
use Rattle.std.specs.Prelude.{List, ℕ, Result}
use Rattle.model.specs.Refusal.{Answer}
use Rattle.model.specs.Carry.{AfterCarry}
use Rattle.tables.specs.declared.Refusal.{Refusal}
use Rattle.tables.specs.Meaning.{answered}

abbrev pub answer_of : Result (Unit {0}) Refusal → Answer (Unit {0})
answer_of = answered (λ u. u)

-- what is answered, and what the lent table holds then
abbrev pub after_carry : Result (Unit {0}) Refusal → List ℕ → AfterCarry
after_carry r places = record { answers = answer_of r; places = places }
