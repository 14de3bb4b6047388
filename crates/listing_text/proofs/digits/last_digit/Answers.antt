-- A digit is below 256, so that the byte holds it.
use mathlib.Core.Path.{refl}
use Rattle.model.specs.Listing.{last_digit}
use Rattle.listing_text.proofs.digits.last_digit.Goals as goal

pub returns : goal.returns
unfolding last_digit
returns c = refl
