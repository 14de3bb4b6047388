-- What is stored of a search.
use Rattle.std.specs.Prelude.{Bool, List, ℕ, length, take}
use Rattle.model.specs.Refusal.{Cramped, Answer, given, need, ◌>>=◌, ◌>>◌}
use Rattle.model.specs.Calls.{left}
use Rattle.model.specs.Boundary.{bytes_for, result_entries, code, AfterGateSearch}
use Rattle.model.specs.Rooms.{search_room}

-- what a call returned, and what the slices lent to it hold then
abbrev pub after_gate_search : ℕ → List ℕ → List ℕ → List ℕ → AfterGateSearch
after_gate_search returned commands scratch answer =
    record { returns = returned; commands = commands; scratch = scratch; answer = answer }

-- what was found, lost or not and the rounds, if there is room for it
unfoldable pub delivery : Answer (Bool × ℕ) → ℕ → ℕ → ℕ → ℕ → Answer (Bool × ℕ)
delivery found n commands scratch answer = do
  v ← found
  need Cramped (search_room n commands scratch answer)
  given v

-- what is returned and left when it is delivered with the first n entries of the tables that the search left
abbrev pub delivered : Answer (Bool × ℕ) → ℕ → List ℕ → List ℕ → List ℕ → List ℕ → List ℕ → AfterGateSearch
delivered found n takes clean commands scratch answer =
    let d = delivery found n (length commands) (length scratch) (length answer) in
    record {
      returns = code d;
      commands = left (λ _. bytes_for (take n takes)) d commands;
      scratch = left (λ _. bytes_for (take n clean)) d scratch;
      answer = left (λ v. bytes_for (result_entries v)) d answer;
    }
