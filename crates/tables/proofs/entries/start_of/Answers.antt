-- The two branches are the two cases of `start_of`: a part below the count, and the end.
use mathlib.Core.Path.{sym, ◌∙◌}
use Rattle.laws.proofs.Starts.{start_in_lem, start_out}
use Rattle.tables.proofs.entries.start_of.Goals as goal

pub returns-then-i-count : goal.returns-then-i-count
returns-then-i-count c = c.at.ensures ∙ sym (start_in_lem _ _ _ _ c.if-i-count.true)

pub returns : goal.returns
returns c = sym (start_out _ _ _ _ c.if-i-count.false)
