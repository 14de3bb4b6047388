-- The first word, three numbers and the end of the line, one behind another, are the line.
use mathlib.Core.List.{[], ◌∷◌}
use Rattle.model.specs.Listing.{plan_line}
use Rattle.listing_text.proofs.LineBytes.{line_put}
use Rattle.listing_text.proofs.Output.put_plan_line.Goals as goal

pub returns-clause-wrote : goal.returns-clause-wrote
unfolding plan_line
returns-clause-wrote c = line_put (_ ∷ _ ∷ _ ∷ []) c.put_word.ensures c.put_three.ensures.wrote c.put_byte.ensures
