-- What the answer of the contest stands for.
use Rattle.std.specs.Prelude.{Bool, Result}
use Rattle.model.specs.Refusal.{Answer}
use Rattle.tables.specs.declared.Refusal.{Refusal}
use Rattle.tables.specs.Meaning.{answered}

-- whether the keeper's turn is held, or the refusal
abbrev pub answer_of : Result Bool Refusal → Answer Bool
answer_of = answered (λ held. held)
