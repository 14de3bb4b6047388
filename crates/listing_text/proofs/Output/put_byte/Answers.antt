-- The byte is stored at the place.
use mathlib.Core.Path.{refl}
use Rattle.laws.proofs.Wrote.{wrote_one}
use Rattle.listing_text.proofs.Puts.{put}
use Rattle.listing_text.proofs.Output.put_byte.Goals as goal

pub returns : goal.returns
returns c = put refl (wrote_one _ _ _)
