-- Numbers of two bytes, highest byte first, and the table entry FFFF for none.
use Rattle.std.specs.Prelude.{cond, List, [], ◌∷◌, ℕ, ◌+◌, ◌*◌, ◌/◌, ◌%◌, ◌<◌, eqb, get_or}
use Rattle.std.proofs.Math.Option.{Option, none, some}

-- every member is a byte
pub record Bytes (s : List ℕ) : Type 0 where
  pub byte : (i : ℕ) → get_or s i 0 < 256

-- the number in two bytes from place i on
abbrev pub be16 : List ℕ → ℕ → ℕ
be16 s i = get_or s i 0 * 256 + get_or s (i + 1) 0

-- the two bytes of a number, in front of further bytes
abbrev pub two : ℕ → List ℕ → List ℕ
two v r = v / 256 ∷ v % 256 ∷ r

-- the bytes of numbers, in front of further bytes
unfoldable pub twos : List ℕ → List ℕ → List ℕ
twos [] r = r
twos (v ∷ vs) r = two v (twos vs r)

-- the entry for none
abbrev pub FFFF : ℕ
FFFF = 0xffff

-- the highest number beside it
abbrev pub highest : ℕ
highest = 0xfffe

-- how a table holds a number or none
unfoldable pub entry : Option ℕ → ℕ
entry none = FFFF
entry (some i) = i

-- how an entry is read
unfoldable pub from_entry : ℕ → Option ℕ
from_entry e = cond (eqb e FFFF) none (some e)
