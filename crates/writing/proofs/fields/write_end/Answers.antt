-- Tag and length are put one behind the other.
use Rattle.writing.proofs.Puts.{put_then}
use Rattle.writing.proofs.fields.write_end.Goals as goal

pub returns : goal.returns
returns c = put_then c.put_byte.ensures c.put_number.ensures
