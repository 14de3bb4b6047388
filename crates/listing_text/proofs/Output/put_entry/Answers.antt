-- A dash where the entry is none, else a number: the test on the entry decides the word.
use Rattle.listing_text.proofs.Entries.{dash_word, number_word}
use Rattle.listing_text.proofs.Output.put_entry.Goals as goal

pub returns-then-e-eq-NONE-clause-wrote : goal.returns-then-e-eq-NONE-clause-wrote
returns-then-e-eq-NONE-clause-wrote c = rw (dash_word _ c.if-e-eq-NONE.true) c.put_letter.ensures.wrote

pub returns-else-e-eq-NONE-clause-wrote : goal.returns-else-e-eq-NONE-clause-wrote
returns-else-e-eq-NONE-clause-wrote c = rw (number_word _ c.if-e-eq-NONE.false) (rw c.from.ensures at c.put_number.ensures.wrote)
