-- The invariant is that reading the states left from the mark on answers what reading all of them does.
use Rattle.reading.proofs.Scanning.{states_left}
use Rattle.reading.specs.Meaning.{Within}
use mathlib.Core.Path.{◌≡◌}
use Rattle.reading.proofs.scan.scan_states.Given as goal

abbrev pub invariant-loop : goal.invariant-loop
invariant-loop l = Within l.file l.k × (states_left l.file l.n l.counter l.k ≡ states_left l.file l.n 0 l.initial.k)
