-- The invariant is that the states left to fill make the tables what all the states make them; a turn takes one state off what is left.
use Rattle.reading.proofs.FillStates.{Filling}
use Rattle.reading.specs.Meaning.{bytes_from}
use Rattle.reading.specs.Filling.{states_in}
use Prim.Native.Nat.{◌-◌, ◌≤◌}
use lib.ListN.{length, drop}
use Rattle.reading.proofs.fill.fill_states.Given as goal

abbrev pub invariant-loop-i : goal.invariant-loop-i
invariant-loop-i l = (l.i ≤ l.n) × Filling (length l.file) l.initial.rows l.initial.firsts l.initial.outcomes (states_in l.n (drop 7 l.file)) l.rows l.firsts l.outcomes l.i l.k
    (states_in (l.n - l.i) (bytes_from l.file l.k))

abbrev pub decreases-loop-i : goal.decreases-loop-i
decreases-loop-i l = l.n - l.i
