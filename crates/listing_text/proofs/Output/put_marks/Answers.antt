-- The practice's letter, by what its function answers, then the fault's word.
use mathlib.Core.List.{[], ◌∷◌}
use Rattle.listing_text.proofs.LineBytes.{words_put}
use Rattle.listing_text.proofs.Output.put_marks.Goals as goal

pub returns-clause-wrote : goal.returns-clause-wrote
returns-clause-wrote c =
    words_put (_ ∷ []) (_ ∷ []) (rw c.practice_letter.ensures at c.put_letter.ensures.wrote) c.put_fault.ensures.wrote
