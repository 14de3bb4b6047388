-- What the answer of deciding stands for.
use Rattle.std.specs.Prelude.{List, ℕ, Result}
use Rattle.model.specs.Refusal.{Answer}
use Rattle.model.specs.Calls.{AfterDecide}
use Rattle.tables.specs.declared.Refusal.{Refusal}
use Rattle.tables.specs.Meaning.{answered}

-- the tally's two rows, safe and lost, or the refusal
abbrev pub decision_of : Result (List (List ℕ)) Refusal → Answer (List (List ℕ))
decision_of = answered (λ t. t)

-- what is answered and what every table lent to the call holds
abbrev pub after_decide : Result (List (List ℕ)) Refusal → List ℕ → List ℕ → List ℕ → List ℕ → AfterDecide
after_decide result ranks commands marks scratch =
    record { answers = decision_of result; ranks = ranks; commands = commands; marks = marks; scratch = scratch }
