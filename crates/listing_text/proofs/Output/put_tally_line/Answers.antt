-- The first word, the safe row, a slash, the lost row and the end of the line, one behind another, are the line.
use mathlib.Core.List.{[], ◌∷◌}
use Rattle.model.specs.Listing.{tally_line}
use Rattle.listing_text.proofs.LineBytes.{words_put, line_put}
use Rattle.listing_text.proofs.Output.put_tally_line.Goals as goal

pub returns-clause-wrote : goal.returns-clause-wrote
unfolding tally_line
returns-clause-wrote c =
    line_put (_ ∷ _ ∷ _ ∷ _ ∷ _ ∷ _ ∷ _ ∷ []) c.put_word.ensures
    (words_put (_ ∷ _ ∷ _ ∷ []) (_ ∷ _ ∷ _ ∷ _ ∷ []) c.put_row.ensures.wrote
    (words_put (_ ∷ []) (_ ∷ _ ∷ _ ∷ []) c.put_letter.ensures.wrote c.put_row-2.ensures.wrote)) c.put_byte.ensures
