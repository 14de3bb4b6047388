-- A plan laid out in tables of numbers, as the two turns read it.
use Rattle.std.specs.Prelude.{cond, List, ℕ, ◌+◌, ◌-◌, ◌<◌, ◌≤◌, eqb, ltb, length, get_or}
use Rattle.laws.specs.Entry.{FFFF}
use Rattle.model.specs.Plan.{Plan}
use Rattle.model.specs.Places.{list_at}
use Rattle.tables.specs.declared.Size.{Size}
use Rattle.tables.specs.Spans.{commands_of}
use Rattle.tables.specs.Ready.{Ready}

-- The plan that the tables lay out: a state is failing where `seeds` has 0, its commands are those from `froms` up to `tos`, and without
-- any it is of kind rest. No turn asks for a start or a practice.
unfoldable pub laid_plan : Size → List ℕ → List ℕ → List ℕ → List ℕ → List ℕ → Plan
laid_plan size seeds froms tos firsts outcomes = record {
  states = size.n;
  start = 0;
  kind = λ s. cond (eqb (get_or seeds s 0) 0) 1 (cond (ltb (get_or froms s 0) (get_or tos s 0)) 0 2);
  commands = λ s. get_or tos s 0 - get_or froms s 0;
  outcomes = λ s c. list_at (commands_of size firsts outcomes) (get_or froms s 0 + c);
  practice = λ s. FFFF;
}

-- what the turns ask of the tables: every place that they name is in range
pub record Laid (size : Size) (seeds froms tos firsts outcomes : List ℕ) : Type 0 where
  pub ready : Ready size.n (commands_of size firsts outcomes)
  pub long_seeds : size.n ≤ length seeds
  pub long_froms : size.n ≤ length froms
  pub long_tos : size.n ≤ length tos
  pub inside : (s : ℕ) → s < size.n → get_or tos s 0 ≤ size.m
