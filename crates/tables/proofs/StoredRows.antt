-- Rows as the model has them: which are stored, and that none is confused with another.
use mathlib.Core.Path.{◌≡◌, refl, ap, ap₂}
use mathlib.Core.List.{List, [], ◌∷◌, map}
use Prim.Native.Nat.{ℕ, zero, suc}
use native.Mathlib.Omega.{arith}
use lib.ListN.{length, get_or, drop, set}
use Rattle.model.specs.Tables.{Row as ModelRow}
use Rattle.tables.specs.declared.Row.{Row}
use Rattle.tables.specs.Meaning.{row_of, rows_of}
use Rattle.tables.specs.Spans.{as_row, no_row}

pub row_stored : (R : List Row) (s : ℕ) (r : Row) → map row_of (set R s r) ≡ set (map row_of R) s (row_of r)
row_stored [] s r = refl
row_stored (x ∷ R) zero r = refl
row_stored (x ∷ R) (suc s) r = ap (λ (l : List ModelRow). row_of x ∷ l) (row_stored R s r)

-- the rows are all that the model has of them
pub rows_inj : (R S : List Row) → rows_of R ≡ rows_of S → R ≡ S
rows_inj [] [] e = refl
rows_inj [] (y ∷ S) e = absurd (let z : length (rows_of []) ≡ length (rows_of (y ∷ S)) = ap length e in omega (arith, z))
rows_inj (x ∷ R) [] e = absurd (let z : length (rows_of (x ∷ R)) ≡ length (rows_of []) = ap length e in omega (arith, z))
rows_inj (x ∷ R) (y ∷ S) e =
    ap₂ (λ (r : Row) (l : List Row). r ∷ l)
    (ap as_row (ap (λ (l : List ModelRow). get_or l 0 (row_of no_row)) e))
    (rows_inj R S (ap (λ (l : List ModelRow). drop 1 l) e))
