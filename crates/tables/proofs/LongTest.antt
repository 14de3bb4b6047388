-- What the test of the tables' lengths says where it holds.
use mathlib.Core.Path.{◌≡◌, subst}
use mathlib.Core.Bool.{true, ◌&&◌}
use mathlib.Core.List.{List, map}
use Prim.Native.Nat.{ℕ, ◌≤◌}
use lib.Dec.{leb}
use lib.ListN.{length, length-map}
use borrow.Author.Tests.{leb-true}
use Rattle.laws.proofs.Tests.{and_both}
use Rattle.model.specs.SoundTest.{tables_long}
use Rattle.tables.specs.declared.Size.{Size}
use Rattle.tables.specs.declared.Row.{Row}
use Rattle.tables.specs.Meaning.{row_of, held}

-- the model's rows are as many as those lent
pub rows_long : (R : List Row) (n : ℕ) → n ≤ length (map row_of R) → n ≤ length R
rows_long R n h = subst (λ (k : ℕ). n ≤ k) (length-map R row_of) h

pub all_long : (z : Size) (R : List Row) (F O : List ℕ) → tables_long (held z R F O) ≡ true
    → (z.n ≤ length R) × (z.m ≤ length F) × (z.t ≤ length O)
unfolding tables_long
all_long z R F O h =
    let rows = leb z.n (length (map row_of R)) in
    let firsts = leb z.m (length F) in
    let three = and_both (rows && firsts) _ h in
    let two = and_both rows firsts three.0 in
    (rows_long R z.n (leb-true _ _ two.0), leb-true _ _ two.1, leb-true _ _ three.1)
