-- Each entry is stored behind the one before it; together they are the bytes of the row.
use Rattle.tables.specs.Meaning.{row_of}
use Rattle.store.proofs.Entries.{row_stored}
use Rattle.store.proofs.encoding.store_row.Goals as goal

pub returns : goal.returns
returns c =
    let a = c.args in
    row_stored (row_of a.row) a.s _ c.store_entry.ensures c.store_entry-2.ensures
    c.store_entry-3.ensures
