-- The first word, the start, the verdict's letter, the rounds and the end of the line, one behind another, are the line.
use mathlib.Core.List.{[], ◌∷◌}
use Rattle.model.specs.Listing.{start_line}
use Rattle.listing_text.proofs.LineBytes.{words_put, line_put}
use Rattle.listing_text.proofs.Output.put_start_line.Goals as goal

pub returns-clause-wrote : goal.returns-clause-wrote
unfolding start_line
returns-clause-wrote c =
    λ R is_lost is-rounds.
    rw (is_lost, is-rounds)
    (line_put (_ ∷ _ ∷ _ ∷ []) c.put_word.ensures
    (words_put (_ ∷ []) (_ ∷ _ ∷ []) c.put_number.ensures.wrote
    (words_put (_ ∷ []) (_ ∷ []) (rw c.verdict_letter.ensures at c.put_letter.ensures.wrote) c.put_number-2.ensures.wrote)) c.put_byte.ensures)
