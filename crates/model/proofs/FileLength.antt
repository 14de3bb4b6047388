-- The bytes of a tree are as many as rule F8 says, counted field by field.
use mathlib.Core.Path.{◌≡◌, ap}
use mathlib.Core.List.{List, [], ◌∷◌}
use Prim.Native.Nat.{ℕ, ◌+◌, ◌*◌}
use native.Mathlib.Omega.{arith}
use lib.ListN.{length, length-append}
use Rattle.laws.specs.Entry.{two}
use Rattle.laws.specs.Lists.{joined}
use Rattle.laws.proofs.Entry.{length_twos}
use Rattle.laws.proofs.Joins.{length_joined}
use Rattle.model.specs.File.{State, Tree, end_tag}
use Rattle.model.specs.Bytes.{commands_bytes, states_bytes, bytes_of}
use Rattle.model.specs.Tables.{Tables, Same, all_commands, tables_of, size_length, file_length}

length_commands : (cs : List (List ℕ)) (r : List ℕ) → length (commands_bytes cs r) ≡ 3 * length cs + 2 * length (joined cs) + length r
unfolding commands_bytes joined
length_commands [] r = omega arith
length_commands (c ∷ cs) r = omega (arith, length_commands cs r, length_twos c (commands_bytes cs r), length-append c (joined cs))

length_states : (ss : List State) (r : List ℕ)
    → length (states_bytes ss r) ≡ 8 * length ss + 3 * length (all_commands ss) + 2 * length (joined (all_commands ss)) + length r
unfolding states_bytes all_commands joined
length_states [] r = omega arith
length_states (s ∷ ss) r = omega (
  arith,
  length_states ss r,
  length_commands s.commands (states_bytes ss r),
  length-append s.commands (all_commands ss),
  length_joined s.commands (all_commands ss),
)

pub length_bytes : (p : Tree) → length (bytes_of p) ≡ file_length (tables_of p)
unfolding bytes_of tables_of size_length
length_bytes p = omega (arith, length_states p.states (end_tag ∷ two 0 []))

-- tables that are the same have files of the same length
pub length_same : {T U : Tables} → Same T U → file_length T ≡ file_length U
length_same same = ap size_length same.size
