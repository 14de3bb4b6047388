-- The letter of the verdict, then the rank's word: a rank is there exactly if the state is lost.
use mathlib.Core.List.{[], ◌∷◌}
use Rattle.listing_text.proofs.Entries.{found_entry}
use Rattle.listing_text.proofs.LineBytes.{words_put}
use Rattle.listing_text.proofs.Output.put_verdict.Goals as goal

pub returns-clause-wrote : goal.returns-clause-wrote
returns-clause-wrote c =
    rw found_entry
    (words_put (_ ∷ []) (_ ∷ []) (rw c.verdict_letter.ensures at c.put_letter.ensures.wrote) c.put_entry.ensures.wrote)
