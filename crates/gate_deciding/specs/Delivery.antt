-- What is stored of a decision.
use Rattle.std.specs.Prelude.{List, ℕ, length, take}
use Rattle.laws.specs.Lists.{joined}
use Rattle.model.specs.Refusal.{Cramped, Answer, given, need, ◌>>=◌, ◌>>◌}
use Rattle.model.specs.Calls.{left, AfterDecide}
use Rattle.model.specs.Boundary.{bytes_for, code, AfterGateDecide}
use Rattle.model.specs.Rooms.{decide_room}

-- the tally, if there is room for everything
unfoldable pub delivery : Answer (List (List ℕ)) → ℕ → ℕ → ℕ → ℕ → ℕ → ℕ → Answer (List (List ℕ))
delivery decision n ranks commands marks scratch tally = do
  t ← decision
  need Cramped (decide_room n ranks commands marks scratch tally)
  given t

-- what a call returns and what every slice lent to it holds
abbrev pub after_gate_decide : ℕ → List ℕ → List ℕ → List ℕ → List ℕ → List ℕ → AfterGateDecide
after_gate_decide returns ranks commands marks scratch tally =
    record { returns = returns; ranks = ranks; commands = commands; marks = marks; scratch = scratch; tally = tally }

-- what is returned and stored of what deciding answers and leaves on a plan of n states
abbrev pub delivery_call : AfterDecide → ℕ → List ℕ → List ℕ → List ℕ → List ℕ → List ℕ → AfterGateDecide
delivery_call decided n ranks commands marks scratch tally =
    let a = delivery decided.answers n (length ranks) (length commands) (length marks) (length scratch) (length tally) in
    record {
      returns = code a;
      ranks = left (λ _. bytes_for (take n decided.ranks)) a ranks;
      commands = left (λ _. bytes_for (take n decided.commands)) a commands;
      marks = left (λ _. bytes_for (take n decided.marks)) a marks;
      scratch = left (λ _. bytes_for (take n decided.scratch)) a scratch;
      tally = left (λ t. bytes_for (joined t)) a tally;
    }
