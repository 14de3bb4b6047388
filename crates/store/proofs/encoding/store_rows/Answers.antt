-- The invariant is that the bytes of the first rows stand in front; a turn stores one row's block more.
use Prim.Native.Nat.{◌*◌}
use mathlib.Core.Path.{◌∙◌, sym, ap}
use mathlib.Core.List.{[], ◌∷◌}
use native.Mathlib.Omega.{arith}
use lib.ListN.{length-map, get_or-map}
use Rattle.laws.proofs.Blocks.{stored_none, stored_next, stored_done}
use Rattle.laws.specs.Writes.{put_all}
use Rattle.model.specs.Boundary.{row_bytes, bytes_for, row_entries}
use Rattle.model.specs.Tables.{Row as ModelRow}
use Rattle.tables.specs.Meaning.{row_of}
use Rattle.tables.specs.Spans.{no_row}
use Rattle.store.proofs.Entries.{rows_blocks}
use Rattle.store.proofs.encoding.store_rows.Goals as goal

pub loop-s-init : goal.loop-s-init
loop-s-init c = (omega arith, stored_none rows_blocks _ _)

pub loop-s-preserved : goal.loop-s-preserved
loop-s-preserved c =
    let R = c.args.rows.now in
    let s = c.loop-s.s in (
      omega (arith, c.loop-s-test.true),
      stored_next rows_blocks (row_of no_row) c.loop-s.invariant.1
          (omega (arith, c.requires, c.loop-s-test.true, length-map R row_of)) _
          (c.store_row.ensures
          ∙ ap (λ (w : ModelRow). put_all c.loop-s.bytes (s * row_bytes) (bytes_for (row_entries (w ∷ []))))
          (ap row_of c.row_at.ensures ∙ sym (get_or-map row_of R s no_row))),
    )

pub returns : goal.returns
returns c =
    let R = c.args.rows.now in
    stored_done rows_blocks c.loop-s.invariant.1 c.loop-s.invariant.0 c.loop-s-test.false
    (omega (arith, c.requires, length-map R row_of)) c.requires.1
