-- No entry before the one that is read is in the set, and those behind it are higher, so the first that is in the set is the lowest.
use mathlib.Core.Bool.{not}
use lib.ListN.{get_or}
use Rattle.laws.specs.First.{FirstNot}
use Rattle.model.specs.Places.{start_in}
use Rattle.tables.specs.Listed.{lists_of}
use Rattle.choice.specs.Within.{members}
use Rattle.choice.proofs.choosing.command_hit.Given as goal

abbrev pub invariant-loop-place : goal.invariant-loop-place
invariant-loop-place l =
    FirstNot (λ j. not (members l.set (get_or l.lists.table.entries.now j 0))) (start_in (lists_of l.lists) l.c) l.place l.place
