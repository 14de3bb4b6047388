-- The bench plans that are proved (docs/SPECIFICATION.md, rules B1 to B12), from the bytes of each file on: what is computed of
-- them, and what the rules say. The two are the same: proofs/Bench.antt.
use Rattle.std.specs.Prelude.{Bool, true, false, List, [], ◌∷◌, ℕ}
use Rattle.laws.specs.Entry.{FFFF}
use Rattle.model.specs.Practice.{tally}
use Rattle.model.specs.Refusal.{Cut, Beyond, Answer, given, refused, ◌>>=◌}
use Rattle.model.specs.Calls.{reading, deciding, searching, rank_table, command_table, mark_table}

-- what deciding and the search from the plan's start give
pub record Judged : Type 0 where
  pub ranks : List ℕ
  pub commands : List ℕ
  pub marks : List ℕ
  pub tally : List (List ℕ)
  pub lost : Bool
  pub rounds : ℕ

-- a file read, decided and searched, with tables of the largest sizes lent
unfoldable pub judged : List ℕ → Answer Judged
judged file = do
  T ← reading 1024 4096 16384 file
  P ← deciding T 1024 1024 1024 1024
  R ← searching T T.size.start 1024 1024
  given (record {
    ranks = rank_table P;
    commands = command_table P;
    marks = mark_table P;
    tally = tally P;
    lost = R.lost;
    rounds = R.rounds;
  })

pub record Bench : Type 0 where
  pub file : List ℕ
  pub says : Answer Judged

abbrev pub bench : List ℕ → List ℕ → List ℕ → List ℕ → List (List ℕ) → Bool → ℕ → Bench
bench file ranks commands marks tally lost rounds =
    record {
      file = file;
      says = given
          (record { ranks = ranks; commands = commands; marks = marks; tally = tally; lost = lost; rounds = rounds });
    }

abbrev pub refusal : List ℕ → Answer Judged → Bench
refusal file r = record { file = file; says = r }

-- rules B3 and L10: case A
abbrev pub case_a : List ℕ
case_a =
    0x01 ∷ 0x00 ∷ 0x04 ∷ 0x00 ∷ 0x06 ∷ 0x00 ∷ 0x00 ∷ 0x02 ∷ 0x00 ∷ 0x05 ∷ 0x00 ∷ 0x00 ∷ 0x02 ∷ 0x00 ∷ 0x01 ∷ 0x03
    ∷ 0x00 ∷ 0x02 ∷ 0x00 ∷ 0x01 ∷ 0x03 ∷ 0x00 ∷ 0x04 ∷ 0x00 ∷ 0x02 ∷ 0x00 ∷ 0x03 ∷ 0x02 ∷ 0x00 ∷ 0x05 ∷ 0x00 ∷ 0x00
    ∷ 0x01 ∷ 0x00 ∷ 0x00 ∷ 0x03 ∷ 0x00 ∷ 0x04 ∷ 0x00 ∷ 0x00 ∷ 0x00 ∷ 0x01 ∷ 0x02 ∷ 0x00 ∷ 0x05 ∷ 0x02 ∷ 0x00 ∷ 0x00
    ∷ 0xff ∷ 0xff ∷ 0x02 ∷ 0x00 ∷ 0x05 ∷ 0x00 ∷ 0x00 ∷ 0x02 ∷ 0x00 ∷ 0x00 ∷ 0x03 ∷ 0x00 ∷ 0x02 ∷ 0x00 ∷ 0x04 ∷ 0x03
    ∷ 0x00 ∷ 0x04 ∷ 0x00 ∷ 0x02 ∷ 0x00 ∷ 0x04 ∷ 0x02 ∷ 0x00 ∷ 0x05 ∷ 0x01 ∷ 0x00 ∷ 0x00 ∷ 0xff ∷ 0xff ∷ 0x02 ∷ 0x00
    ∷ 0x05 ∷ 0x00 ∷ 0x00 ∷ 0x01 ∷ 0xff ∷ 0xff ∷ 0x03 ∷ 0x00 ∷ 0x02 ∷ 0x00 ∷ 0x03 ∷ 0x04 ∷ 0x00 ∷ 0x00 ∷ []

-- rule B4: one state, at rest
abbrev pub one_rest : List ℕ
one_rest =
    0x01 ∷ 0x00 ∷ 0x04 ∷ 0x00 ∷ 0x01 ∷ 0x00 ∷ 0x00 ∷ 0x02 ∷ 0x00 ∷ 0x05 ∷ 0x02 ∷ 0x00 ∷ 0x00 ∷ 0xff ∷ 0xff ∷ 0x04
    ∷ 0x00 ∷ 0x00 ∷ []

-- rule B5: one state, failing
abbrev pub one_failing : List ℕ
one_failing =
    0x01 ∷ 0x00 ∷ 0x04 ∷ 0x00 ∷ 0x01 ∷ 0x00 ∷ 0x00 ∷ 0x02 ∷ 0x00 ∷ 0x05 ∷ 0x01 ∷ 0x00 ∷ 0x00 ∷ 0xff ∷ 0xff ∷ 0x04
    ∷ 0x00 ∷ 0x00 ∷ []

-- rule B6: 0 leads to 0
abbrev pub to_itself : List ℕ
to_itself =
    0x01 ∷ 0x00 ∷ 0x04 ∷ 0x00 ∷ 0x01 ∷ 0x00 ∷ 0x00 ∷ 0x02 ∷ 0x00 ∷ 0x05 ∷ 0x00 ∷ 0x00 ∷ 0x01 ∷ 0xff ∷ 0xff ∷ 0x03
    ∷ 0x00 ∷ 0x02 ∷ 0x00 ∷ 0x00 ∷ 0x04 ∷ 0x00 ∷ 0x00 ∷ []

-- rule B7: 0 leads to 0 or 1, which is failing
abbrev pub to_itself_or_failing : List ℕ
to_itself_or_failing =
    0x01 ∷ 0x00 ∷ 0x04 ∷ 0x00 ∷ 0x02 ∷ 0x00 ∷ 0x00 ∷ 0x02 ∷ 0x00 ∷ 0x05 ∷ 0x00 ∷ 0x00 ∷ 0x01 ∷ 0xff ∷ 0xff ∷ 0x03
    ∷ 0x00 ∷ 0x04 ∷ 0x00 ∷ 0x00 ∷ 0x00 ∷ 0x01 ∷ 0x02 ∷ 0x00 ∷ 0x05 ∷ 0x01 ∷ 0x00 ∷ 0x00 ∷ 0xff ∷ 0xff ∷ 0x04 ∷ 0x00
    ∷ 0x00 ∷ []

-- rule B8: 0 leads to 1, which is failing, or by its other command to 0
abbrev pub second_command : List ℕ
second_command =
    0x01 ∷ 0x00 ∷ 0x04 ∷ 0x00 ∷ 0x02 ∷ 0x00 ∷ 0x00 ∷ 0x02 ∷ 0x00 ∷ 0x05 ∷ 0x00 ∷ 0x00 ∷ 0x02 ∷ 0xff ∷ 0xff ∷ 0x03
    ∷ 0x00 ∷ 0x02 ∷ 0x00 ∷ 0x01 ∷ 0x03 ∷ 0x00 ∷ 0x02 ∷ 0x00 ∷ 0x00 ∷ 0x02 ∷ 0x00 ∷ 0x05 ∷ 0x01 ∷ 0x00 ∷ 0x00 ∷ 0xff
    ∷ 0xff ∷ 0x04 ∷ 0x00 ∷ 0x00 ∷ []

-- rule B9: 0 leads to 1, and 1 to 2, which is failing
abbrev pub chain : List ℕ
chain =
    0x01 ∷ 0x00 ∷ 0x04 ∷ 0x00 ∷ 0x03 ∷ 0x00 ∷ 0x00 ∷ 0x02 ∷ 0x00 ∷ 0x05 ∷ 0x00 ∷ 0x00 ∷ 0x01 ∷ 0xff ∷ 0xff ∷ 0x03
    ∷ 0x00 ∷ 0x02 ∷ 0x00 ∷ 0x01 ∷ 0x02 ∷ 0x00 ∷ 0x05 ∷ 0x00 ∷ 0x00 ∷ 0x01 ∷ 0xff ∷ 0xff ∷ 0x03 ∷ 0x00 ∷ 0x02 ∷ 0x00
    ∷ 0x02 ∷ 0x02 ∷ 0x00 ∷ 0x05 ∷ 0x01 ∷ 0x00 ∷ 0x00 ∷ 0xff ∷ 0xff ∷ 0x04 ∷ 0x00 ∷ 0x00 ∷ []

-- rule B10: one state, ordinary, that has no command: it is stuck
abbrev pub no_commands : List ℕ
no_commands =
    0x01 ∷ 0x00 ∷ 0x04 ∷ 0x00 ∷ 0x01 ∷ 0x00 ∷ 0x00 ∷ 0x02 ∷ 0x00 ∷ 0x05 ∷ 0x00 ∷ 0x00 ∷ 0x00 ∷ 0xff ∷ 0xff ∷ 0x04
    ∷ 0x00 ∷ 0x00 ∷ []

-- rule B12: no state
abbrev pub no_states : List ℕ
no_states = 0x01 ∷ 0x00 ∷ 0x04 ∷ 0x00 ∷ 0x00 ∷ 0x00 ∷ 0x00 ∷ []

-- rule B1: the table, whose rows are rules B3 to B12
abbrev pub benches : List Bench
benches =
    bench case_a (FFFF ∷ FFFF ∷ FFFF ∷ 1 ∷ 0 ∷ 2 ∷ []) (0 ∷ 0 ∷ FFFF ∷ FFFF ∷ FFFF ∷ FFFF ∷ []) (3 ∷ 1 ∷ 0 ∷ 1 ∷ 1 ∷ 0 ∷ [])
    ((0 ∷ 2 ∷ 1 ∷ []) ∷ (0 ∷ 1 ∷ 2 ∷ []) ∷ []) false 2
    ∷ bench one_rest (FFFF ∷ []) (FFFF ∷ []) (0 ∷ []) ((0 ∷ 0 ∷ 1 ∷ []) ∷ (0 ∷ 0 ∷ 0 ∷ []) ∷ []) false 0
    ∷ bench one_failing (0 ∷ []) (FFFF ∷ []) (1 ∷ []) ((0 ∷ 0 ∷ 0 ∷ []) ∷ (0 ∷ 0 ∷ 1 ∷ []) ∷ []) true 0
    ∷ bench to_itself (FFFF ∷ []) (0 ∷ []) (0 ∷ []) ((0 ∷ 0 ∷ 1 ∷ []) ∷ (0 ∷ 0 ∷ 0 ∷ []) ∷ []) false 1
    ∷ bench to_itself_or_failing (1 ∷ 0 ∷ []) (FFFF ∷ FFFF ∷ []) (0 ∷ 1 ∷ []) ((0 ∷ 0 ∷ 0 ∷ []) ∷ (0 ∷ 0 ∷ 2 ∷ []) ∷ []) true 1
    ∷ bench second_command (FFFF ∷ 0 ∷ []) (1 ∷ FFFF ∷ []) (0 ∷ 1 ∷ []) ((0 ∷ 0 ∷ 1 ∷ []) ∷ (0 ∷ 0 ∷ 1 ∷ []) ∷ []) false 1
    ∷ bench chain (2 ∷ 1 ∷ 0 ∷ []) (FFFF ∷ FFFF ∷ FFFF ∷ []) (0 ∷ 0 ∷ 1 ∷ []) ((0 ∷ 0 ∷ 0 ∷ []) ∷ (0 ∷ 0 ∷ 3 ∷ []) ∷ []) true 2
    ∷ bench no_commands (0 ∷ []) (FFFF ∷ []) (1 ∷ []) ((0 ∷ 0 ∷ 0 ∷ []) ∷ (0 ∷ 0 ∷ 1 ∷ []) ∷ []) true 0
    ∷ refusal [] (refused Cut)
    ∷ refusal no_states (refused Beyond)
    ∷ []

-- rule L11: case A's listing, a line of bytes for each of its lines
abbrev pub case_a_listing : List ℕ
case_a_listing =
    112 ∷ 108 ∷ 97 ∷ 110 ∷ 32 ∷ 54 ∷ 32 ∷ 54 ∷ 32 ∷ 57 ∷ 10
    ∷ 48 ∷ 32 ∷ 111 ∷ 32 ∷ 83 ∷ 32 ∷ 45 ∷ 32 ∷ 48 ∷ 32 ∷ 70 ∷ 32 ∷ 33 ∷ 51 ∷ 10
    ∷ 49 ∷ 32 ∷ 111 ∷ 32 ∷ 83 ∷ 32 ∷ 45 ∷ 32 ∷ 48 ∷ 32 ∷ 70 ∷ 32 ∷ 46 ∷ 10
    ∷ 50 ∷ 32 ∷ 114 ∷ 32 ∷ 83 ∷ 32 ∷ 45 ∷ 32 ∷ 45 ∷ 32 ∷ 72 ∷ 32 ∷ 46 ∷ 10
    ∷ 51 ∷ 32 ∷ 111 ∷ 32 ∷ 76 ∷ 32 ∷ 49 ∷ 32 ∷ 45 ∷ 32 ∷ 70 ∷ 32 ∷ 46 ∷ 10
    ∷ 52 ∷ 32 ∷ 102 ∷ 32 ∷ 76 ∷ 32 ∷ 48 ∷ 32 ∷ 45 ∷ 32 ∷ 70 ∷ 32 ∷ 46 ∷ 10
    ∷ 53 ∷ 32 ∷ 111 ∷ 32 ∷ 76 ∷ 32 ∷ 50 ∷ 32 ∷ 45 ∷ 32 ∷ 72 ∷ 32 ∷ 46 ∷ 10
    ∷ 116 ∷ 97 ∷ 108 ∷ 108 ∷ 121 ∷ 32 ∷ 48 ∷ 32 ∷ 50 ∷ 32 ∷ 49 ∷ 32 ∷ 47 ∷ 32 ∷ 48 ∷ 32 ∷ 49 ∷ 32 ∷ 50 ∷ 10
    ∷ 115 ∷ 116 ∷ 97 ∷ 114 ∷ 116 ∷ 32 ∷ 48 ∷ 32 ∷ 83 ∷ 32 ∷ 50 ∷ 10 ∷ []
