-- The loading of rows, place by place.
use mathlib.Core.Path.{◌≡◌, sym, ap, ◌∙◌}
use mathlib.Core.List.{List}
use Prim.Native.Nat.{ℕ, ◌+◌, ◌*◌, ◌<◌, ◌≤◌}
use lib.ListN.{length, take, set, length-set, length-map}
use Rattle.laws.specs.Lists.{overwrite}
use Rattle.laws.proofs.Writes.{ruled, ruled_next, ruled_last, ruled_first}
use Rattle.model.specs.Tables.{Row as ModelRow}
use Rattle.model.specs.Boundary.{row_bytes, entries_in, rows_in, row_in}
use Rattle.model.proofs.Lent.{take_rows}
use Rattle.tables.specs.declared.Row.{Row}
use Rattle.tables.specs.Meaning.{row_of, rows_of}
use Rattle.tables.proofs.StoredRows.{row_stored}

-- of n rows those before s are loaded
pub record Rows (bytes : List ℕ) (n : ℕ) (rows₀ rows : List Row) (s : ℕ) : Type 0 where
  pub same : length rows ≡ length rows₀
  pub put : ruled (row_in bytes) n s (rows_of rows) ≡ ruled (row_in bytes) n 0 (rows_of rows₀)

module _ (bytes : List ℕ) (n s : ℕ) {rows₀ rows : List Row} (w : Rows bytes n rows₀ rows s) where
  pub rows_more : s < n → {r : Row} → row_of r ≡ row_in bytes s → {rows' : List Row} → rows' ≡ set rows s r
      → Rows bytes n rows₀ rows' (s + 1)
  rows_more h {r} e f = rw f (record {
    same = length-set rows s _ ∙ w.same;
    put = rw (row_stored rows s r) (ruled_next (row_in bytes) n s (rows_of rows) h e ∙ w.put);
  })

  pub rows_end : n * row_bytes ≤ length bytes → n ≤ length rows₀ → n ≤ s → rows_of rows
      ≡ overwrite (take n (rows_in (entries_in bytes))) (rows_of rows₀)
  rows_end h l k =
      sym (ruled_last (row_in bytes) n s (rows_of rows) k)
      ∙ w.put
      ∙ ruled_first (row_in bytes) n (rows_of rows₀) (rw (length-map rows₀ row_of) l)
      ∙ ap (λ (xs : List ModelRow). overwrite xs (rows_of rows₀)) (sym (take_rows n bytes h))
