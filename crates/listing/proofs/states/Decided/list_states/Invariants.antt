-- The lines of the states before s were put; a turn puts one more.
use Rattle.model.specs.Held.{plan_in}
use Rattle.tables.specs.Meaning.{lent}
use Rattle.listing_text.specs.Puts.{Put}
use Rattle.listing.proofs.StateLines.{lines}
use Rattle.listing.proofs.states.Decided.list_states.Given as goal

abbrev pub invariant-loop-s : goal.invariant-loop-s
invariant-loop-s l = Put l.initial.out (lines (plan_in (lent l.self.checked.plan)) l.s) l.out
