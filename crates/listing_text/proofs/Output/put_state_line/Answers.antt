-- Number, kind, verdict and rank, command and marks, one behind another, are the line of a state of which the tables tell so.
use Rattle.listing_text.proofs.StateLine.{state_put}
use Rattle.listing_text.proofs.Output.put_state_line.Goals as goal

pub returns-clause-wrote : goal.returns-clause-wrote
returns-clause-wrote c =
    λ P tells.
    state_put tells c.kind_letter.ensures c.put_decimal.ensures.wrote c.put_letter.ensures.wrote c.put_verdict.ensures.wrote
    c.put_entry.ensures.wrote c.put_marks.ensures.wrote c.put_byte.ensures
