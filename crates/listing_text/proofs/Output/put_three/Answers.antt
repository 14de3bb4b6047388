-- Three words one behind another: each is put where the one before ends.
use mathlib.Core.List.{[], ◌∷◌}
use Rattle.listing_text.proofs.LineBytes.{words_put}
use Rattle.listing_text.proofs.Output.put_three.Goals as goal

pub returns-clause-wrote : goal.returns-clause-wrote
returns-clause-wrote c =
    words_put (_ ∷ []) (_ ∷ _ ∷ []) c.put_number.ensures.wrote
    (words_put (_ ∷ []) (_ ∷ []) c.put_number-2.ensures.wrote c.put_number-3.ensures.wrote)
