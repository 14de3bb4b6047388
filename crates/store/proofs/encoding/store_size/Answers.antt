-- Each entry is stored behind the one before it; together they are the bytes of the size record.
use Rattle.tables.specs.Meaning.{numbers}
use Rattle.store.proofs.Entries.{size_stored}
use Rattle.store.proofs.encoding.store_size.Goals as goal

pub returns : goal.returns
returns c =
    size_stored (numbers c.args.size) _ c.requires.0
    c.store_entry.ensures
    c.store_entry-2.ensures
    c.store_entry-3.ensures
    c.store_entry-4.ensures
