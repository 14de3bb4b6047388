-- A dot where there is no outcome, else the sign and the number behind it.
use Rattle.listing_text.proofs.Puts.{put_then}
use Rattle.model.specs.Listing.{fault_sign}
use Rattle.listing_text.specs.Words.{spaced}
use Rattle.listing_text.proofs.LineBytes.{word_put}
use Rattle.listing_text.proofs.Output.put_fault.Goals as goal

pub returns-in-None-clause-wrote : goal.returns-in-None-clause-wrote
unfolding fault_sign
returns-in-None-clause-wrote c = rw c.in-None.is c.put_letter.ensures.wrote

pub returns-in-Some-clause-wrote : goal.returns-in-Some-clause-wrote
unfolding fault_sign spaced
returns-in-Some-clause-wrote c =
    rw c.in-Some.is (word_put (put_then c.put_letter-in-Some.ensures.wrote c.put_decimal.ensures.wrote))
