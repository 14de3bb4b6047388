-- What the answer of the search stands for.
use Rattle.std.specs.Prelude.{Bool, List, ℕ, Result}
use Rattle.model.specs.Refusal.{Answer}
use Rattle.model.specs.Calls.{AfterSearch}
use Rattle.tables.specs.declared.Refusal.{Refusal}
use Rattle.tables.specs.Meaning.{answered}
use Rattle.search.specs.declared.Found.{Found}

-- the verdict (true: lost) and the number of rounds, or the refusal
abbrev pub answer_of : Result Found Refusal → Answer (Bool × ℕ)
answer_of = answered (λ (f : Found). (f.lost, f.rounds))

-- and what the command table and scratch hold
abbrev pub after_search : Result Found Refusal → List ℕ → List ℕ → AfterSearch
after_search r commands scratch = record { answers = answer_of r; commands = commands; scratch = scratch }
