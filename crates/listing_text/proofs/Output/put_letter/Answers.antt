-- A space and a letter are a word.
use Rattle.listing_text.specs.Words.{spaced}
use Rattle.listing_text.proofs.Output.put_letter.Goals as goal

pub returns-clause-wrote : goal.returns-clause-wrote
unfolding spaced
returns-clause-wrote c = c.put_word.ensures
