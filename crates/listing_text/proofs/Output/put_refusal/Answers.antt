-- The first word, the refusal's number, which is small, and the end of the line are the text.
use mathlib.Core.List.{[], ◌∷◌}
use Rattle.model.specs.Listing.{refusal_text}
use Rattle.listing_text.proofs.LineBytes.{line_put}
use Rattle.listing_text.proofs.Output.put_refusal.Goals as goal

pub returns-clause-wrote : goal.returns-clause-wrote
unfolding refusal_text
returns-clause-wrote c =
    rw (← c.from.ensures.numbered) (line_put (_ ∷ []) c.put_word.ensures c.put_number.ensures.wrote c.put_byte.ensures)
