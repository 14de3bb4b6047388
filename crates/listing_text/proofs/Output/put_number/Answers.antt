-- A space, and behind it the decimal: together the word of the number.
use Rattle.listing_text.proofs.Puts.{put_then}
use Rattle.listing_text.proofs.LineBytes.{word_put}
use Rattle.listing_text.proofs.Output.put_number.Goals as goal

pub returns-clause-wrote : goal.returns-clause-wrote
returns-clause-wrote c = word_put (put_then c.put_byte.ensures c.put_decimal.ensures.wrote)
