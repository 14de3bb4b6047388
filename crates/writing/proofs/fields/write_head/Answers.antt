-- Tag, length and the two numbers are put one behind the other.
use Rattle.writing.proofs.Puts.{put_then}
use Rattle.writing.proofs.fields.write_head.Goals as goal

pub returns : goal.returns
returns c =
    put_then c.put_byte.ensures
    (put_then c.put_number.ensures (put_then c.put_number-2.ensures c.put_number-3.ensures))
