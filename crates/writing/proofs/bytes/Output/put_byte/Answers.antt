-- One byte stored at its place is put there, and the place past it is the next.
use mathlib.Core.Path.{refl}
use Rattle.laws.proofs.Wrote.{wrote_one}
use Rattle.writing.proofs.Puts.{put}
use Rattle.writing.proofs.bytes.Output.put_byte.Goals as goal

pub returns : goal.returns
returns c = put refl (wrote_one _ _ _)
