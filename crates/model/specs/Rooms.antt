-- Whether slices of so many bytes have room for what a call of the C program answers: proofs/Gating.antt and proofs/Gates.antt show that
-- this is what the calls ask for.
use Rattle.std.specs.Prelude.{Bool, ◌&&◌, ℕ, ◌/◌, leb}
use Rattle.model.specs.Tables.{Size, enough}
use Rattle.model.specs.Boundary.{entry_bytes, row_bytes, size_bytes, tally_bytes, answer_bytes}

-- for a plan, and its size record
abbrev pub read_room : Size → ℕ → ℕ → ℕ → ℕ → Bool
read_room z size rows firsts outcomes = enough z (rows / row_bytes) (firsts / entry_bytes) (outcomes / entry_bytes) && leb size_bytes size

-- for the verdicts on n states, and the tally
abbrev pub decide_room : ℕ → ℕ → ℕ → ℕ → ℕ → ℕ → Bool
decide_room n ranks commands marks scratch tally =
    leb n (ranks / entry_bytes) && leb n (commands / entry_bytes) && leb n (marks / entry_bytes) && leb n (scratch / entry_bytes)
    && leb tally_bytes tally

-- for the search's command table of n states, and its answer
abbrev pub search_room : ℕ → ℕ → ℕ → ℕ → Bool
search_room n commands scratch answer = leb n (commands / entry_bytes) && leb n (scratch / entry_bytes) && leb answer_bytes answer
