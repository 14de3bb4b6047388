-- A plan that is lent as bytes, by index: its entries and rows, and how many there are.
use mathlib.Core.Path.{◌≡◌, refl, sym, ap, ap₂, ◌∙◌}
use mathlib.Core.List.{List}
use Prim.Native.Nat.{ℕ, zero, suc, ◌+◌, ◌*◌, ◌/◌, ◌<◌, ◌≤◌}
use native.Mathlib.Omega.{arith}
use lib.ListN.{length, get_or, take, drop}
use lib.Seq.{get_or-drop, get_or-take, length-take-le, ext_get_or}
use Rattle.laws.specs.Lists.{tabulate}
use Rattle.laws.specs.Entry.{be16}
use Rattle.laws.proofs.Lists.{length_tabulate, tabulate_at, tabulate_same, take_tabulate}
use Rattle.model.specs.File.{entries}
use Rattle.model.specs.Tables.{Row}
use Rattle.model.specs.Boundary.{entry_bytes, row_width, row_bytes, entries_in, row_from, rows_in, row_in}
use Rattle.model.proofs.Fields.{length_entries}

entry_at : (k : ℕ) (s : List ℕ) (i : ℕ) → i < k → get_or (entries k s) i 0 ≡ be16 s (i * 2)
unfolding entries
entry_at zero s i h = absurd (omega arith)
entry_at (suc k) s zero h = refl
entry_at (suc k) s (suc i) h =
    let a : 2 + i * 2 ≡ suc i * 2 = omega arith in
    let b : 2 + (i * 2 + 1) ≡ suc i * 2 + 1 = omega arith in
    entry_at k (drop 2 s) i (omega arith)
    ∙ ap₂ (λ (x y : ℕ). x * 256 + y) (get_or-drop 2 s (i * 2) 0 ∙ ap (λ (j : ℕ). get_or s j 0) a)
    (get_or-drop 2 s (i * 2 + 1) 0 ∙ ap (λ (j : ℕ). get_or s j 0) b)

-- the first n entries
pub take_entries : (n : ℕ) (s : List ℕ) → n * entry_bytes ≤ length s → take n (entries_in s) ≡ tabulate (λ i. be16 s (i * entry_bytes)) 0 n
unfolding entries_in
take_entries n s h =
    let l : n ≤ length (entries (length s / 2) s) = omega (arith, length_entries (length s / 2) s) in
    let e : length (take n (entries (length s / 2) s)) ≡ n = length-take-le n _ l in
    ext_get_or 0 _ _ (e ∙ sym (length_tabulate (λ i. be16 s (i * 2)) 0 n)) (λ i k.
    get_or-take n _ i 0 (rw e at k) ∙ entry_at (length s / 2) s i (omega (arith, e, k))
    ∙ sym (tabulate_at (λ j. be16 s (j * 2)) n i 0 (rw e at k)))

pub length_rows : (es : List ℕ) → length (rows_in es) ≡ length es / row_width
unfolding rows_in
length_rows es = length_tabulate (λ s. row_from (λ i. get_or es (s * row_width + i) 0)) 0 (length es / row_width)

-- a row is what its entries are
row_same : (f g : ℕ → ℕ) → ((i : ℕ) → i < row_width → f i ≡ g i) → row_from f ≡ row_from g
row_same f g h = λ q. record { kind = h 0 (omega arith) q; first = h 1 (omega arith) q; practice = h 2 (omega arith) q }

-- the first n rows
pub take_rows : (n : ℕ) (s : List ℕ) → n * row_bytes ≤ length s → take n (rows_in (entries_in s)) ≡ tabulate (row_in s) 0 n
unfolding rows_in entries_in
take_rows n s h =
    let k = length s / entry_bytes in
    let long : length (entries k s) ≡ k = length_entries k s in
    let row : ℕ → Row = λ j. row_from (λ i. get_or (entries k s) (j * row_width + i) 0) in
    take_tabulate row 0 n (length (entries k s) / row_width) (omega (arith, long))
    ∙ tabulate_same row (row_in s) n n refl (λ j below. row_same _ _ (λ i l. entry_at k s (j * row_width + i) (omega (arith, below, l))))

-- how many a slice of bytes has
pub length_entries_in : (s : List ℕ) → length (entries_in s) ≡ length s / entry_bytes
unfolding entries_in
length_entries_in s = length_entries (length s / entry_bytes) s

pub length_rows_in : (s : List ℕ) → length (rows_in (entries_in s)) ≡ length s / row_bytes
length_rows_in s = omega (arith, length_rows (entries_in s), length_entries_in s)
