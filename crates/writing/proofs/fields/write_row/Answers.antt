-- Tag, length, kind, count and practice are put one behind the other.
use Rattle.writing.proofs.Puts.{put_then}
use Rattle.writing.proofs.fields.write_row.Goals as goal

pub returns : goal.returns
returns c =
    put_then c.put_byte.ensures
    (put_then c.put_number.ensures (put_then c.put_byte-2.ensures (put_then c.put_number-2.ensures c.put_number-3.ensures)))
