-- When the loop comes to state s, the states before it are initialized in all four tables.
use mathlib.Core.List.{List}
use Prim.Native.Nat.{ℕ}
use Rattle.nets.specs.Nets.{Initialized}
use Rattle.tables.specs.Meaning.{held}
use Rattle.nets.proofs.propagations.initialize.Given as goal

abbrev pub invariant-loop-s : goal.invariant-loop-s
invariant-loop-s l = (F O : List ℕ) → Initialized (held l.size l.rows F O) l.s l.initial.ranks l.initial.froms l.initial.tos l.initial.places l.ranks l.froms l.tos l.places
