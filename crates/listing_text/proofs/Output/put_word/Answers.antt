-- The word is copied to the bytes from the place on.
use mathlib.Core.Path.{refl}
use native.Mathlib.Omega.{arith}
use Rattle.listing_text.proofs.Copies.{copied}
use Rattle.listing_text.proofs.Puts.{put}
use Rattle.listing_text.proofs.Output.put_word.Goals as goal

pub returns : goal.returns
returns c = put refl (copied (omega (arith, c.requires)) c.copy_from_slice.ensures.after)
