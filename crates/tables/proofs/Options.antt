-- How a table holds an answer that may be none.
use mathlib.Core.Path.{◌≡◌, refl}
use Prim.Native.Nat.{ℕ}
use Rattle.std.specs.Prelude.{Option, Some, None, unwrap_or}
use Rattle.laws.specs.Entry.{entry, FFFF}
use Rattle.tables.specs.Meaning.{option_of}

-- FFFF stands for none
pub option_entry : (x : Option ℕ) → unwrap_or x FFFF ≡ entry (option_of x)
unfolding entry
option_entry None = refl
option_entry (Some v) = refl
