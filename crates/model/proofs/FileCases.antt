-- Reading, computed: each limit at its last number and one past it, and the order of the checks where two would refuse.
use mathlib.Core.Path.{◌≡◌, refl}
use mathlib.Core.List.{List, [], ◌∷◌, ◌++◌, map}
use Prim.Native.Nat.{ℕ}
use Rattle.laws.specs.Lists.{joined}
use Rattle.laws.specs.Entry.{FFFF}
use Rattle.model.specs.Refusal.{
  Cut,
  Surplus,
  Tag,
  Length,
  Beyond,
  Unsorted,
  Idle,
  Limit,
  Cramped,
  given,
  refused,
  answer,
  ◌>>=◌,
  need,
  ◌>>◌,
}
use Rattle.model.specs.File.{
  head_tag,
  state_tag,
  command_tag,
  end_tag,
  field,
  head,
  state,
  entries,
  rising,
  command,
  commands,
  states,
  read,
}
use Rattle.model.specs.Tables.{all_commands, rows_from, firsts_from, tables_of}
use Rattle.model.specs.Calls.{reading}
use Rattle.model.specs.Bench.{one_rest}

-- ---- a field

-- a wrong tag with a wrong length: tag; a wrong length with the value missing: length; a right length with the value missing: cut
field_order : field head_tag (9 ∷ 0 ∷ 5 ∷ []) ∷ field head_tag (1 ∷ 0 ∷ 5 ∷ []) ∷ field head_tag (1 ∷ 0 ∷ 4 ∷ []) ∷ []
    ≡ refused Tag ∷ refused Length ∷ refused Cut ∷ []
unfolding field ◌>>=◌ need ◌>>◌
field_order = refl

-- each tag with its own length and with another's: state 5 and 4, command 2 and 0, end 0 and 2
field_lengths : field state_tag (2 ∷ 0 ∷ 5 ∷ 0 ∷ 0 ∷ 0 ∷ 0 ∷ 0 ∷ []) ∷ field state_tag (2 ∷ 0 ∷ 4 ∷ 0 ∷ 0 ∷ 0 ∷ 0 ∷ 0 ∷ [])
    ∷ field command_tag (3 ∷ 0 ∷ 2 ∷ 0 ∷ 0 ∷ []) ∷ field command_tag (3 ∷ 0 ∷ 0 ∷ 0 ∷ 0 ∷ [])
    ∷ field end_tag (4 ∷ 0 ∷ 0 ∷ []) ∷ field end_tag (4 ∷ 0 ∷ 2 ∷ 0 ∷ 0 ∷ []) ∷ []
    ≡ given 5 ∷ refused Length ∷ given 2 ∷ refused Length ∷ given 0 ∷ refused Length ∷ []
unfolding field ◌>>=◌ need ◌>>◌
field_lengths = refl

-- ---- head: n, then the start

-- n = 1,024 with the start 1,023 and with the start 1,024; n = 1,025
head_limits : head (1 ∷ 0 ∷ 4 ∷ 4 ∷ 0 ∷ 3 ∷ 255 ∷ []) ∷ head (1 ∷ 0 ∷ 4 ∷ 4 ∷ 0 ∷ 4 ∷ 0 ∷ []) ∷ head (1 ∷ 0 ∷ 4 ∷ 4 ∷ 1 ∷ 0 ∷ 0 ∷ []) ∷ []
    ≡ given (1024, 1023) ∷ refused Beyond ∷ refused Beyond ∷ []
unfolding head field ◌>>=◌ need ◌>>◌
head_limits = refl

-- ---- state: kind, idle, limit

-- a command more than 4,096, under kind 2 and under kind 0: idle comes before limit; the 4,096th
state_limits : state 4096 (2 ∷ 0 ∷ 5 ∷ 2 ∷ 0 ∷ 1 ∷ 255 ∷ 255 ∷ []) ∷ state 4096 (2 ∷ 0 ∷ 5 ∷ 0 ∷ 0 ∷ 1 ∷ 255 ∷ 255 ∷ [])
    ∷ state 4095 (2 ∷ 0 ∷ 5 ∷ 0 ∷ 0 ∷ 1 ∷ 255 ∷ 255 ∷ []) ∷ []
    ≡ refused Idle ∷ refused Limit ∷ given (record { kind = 0; count = 1; practice = FFFF }) ∷ []
unfolding state field ◌>>=◌ need ◌>>◌
state_limits = refl

-- ---- command: limit, then each entry

-- an outcome more than 16,384, which is not below n either: limit; the 16,384th; the same not below n
command_limits : command 2 16384 (3 ∷ 0 ∷ 2 ∷ 0 ∷ 9 ∷ []) ∷ command 2 16383 (3 ∷ 0 ∷ 2 ∷ 0 ∷ 1 ∷ [])
    ∷ command 2 16383 (3 ∷ 0 ∷ 2 ∷ 0 ∷ 2 ∷ []) ∷ []
    ≡ refused Limit ∷ given (1 ∷ []) ∷ refused Beyond ∷ []
unfolding command field entries rising ◌>>=◌ need ◌>>◌
command_limits = refl

-- 3 with n = 2 where at least 5 is due: beyond comes before unsorted. (No file has such an entry: the one before it would be 4, and is
-- refused.)
entry_order : rising 2 5 (3 ∷ []) ∷ rising 4 5 (3 ∷ []) ∷ rising 4 3 (3 ∷ []) ∷ []
    ≡ refused Beyond ∷ refused Unsorted ∷ given tt ∷ []
unfolding rising need ◌>>◌
entry_order = refl

-- ---- the counts so far go from state to state, the outcomes also from command to command

-- a command with the outcome 0, and an ordinary state with its first command
abbrev one_command : List ℕ
one_command = 3 ∷ 0 ∷ 2 ∷ 0 ∷ 0 ∷ []

abbrev of_commands : ℕ → List ℕ
of_commands count = 2 ∷ 0 ∷ 5 ∷ 0 ∷ 0 ∷ count ∷ 255 ∷ 255 ∷ one_command

-- Two states of a command each, with 4,094 and 4,095 commands so far; with 16,382 and 16,383 outcomes so far; one state of two commands,
-- with 16,382 and 16,383 outcomes so far. What is left of the bytes, or the refusal.
counts_go_on : map (λ m. answer (λ x. x.1) (states 1 2 m 0 (of_commands 1 ++ of_commands 1))) (4094 ∷ 4095 ∷ [])
    ++ map (λ t. answer (λ x. x.1) (states 1 2 0 t (of_commands 1 ++ of_commands 1))) (16382 ∷ 16383 ∷ [])
    ++ map (λ t. answer (λ x. x.1) (states 1 1 0 t (of_commands 2 ++ one_command))) (16382 ∷ 16383 ∷ [])
    ≡ given [] ∷ refused Limit ∷ given [] ∷ refused Limit ∷ given [] ∷ refused Limit ∷ []
unfolding states state commands command field entries rising answer ◌>>=◌ need ◌>>◌
counts_go_on = refl

-- ---- a file

-- one rest state with no row lent: a byte after the end is surplus, and only without it is the lack of a row told
surplus_first : reading 0 0 0 (one_rest ++ 0 ∷ []) ∷ reading 0 0 0 one_rest ∷ [] ≡ refused Surplus ∷ refused Cramped ∷ []
unfolding reading read head field states state commands all_commands rows_from firsts_from tables_of joined ◌>>=◌ need ◌>>◌
surplus_first = refl
