-- The invariant is that reading the commands left from the mark on answers what reading all of them does.
use Rattle.reading.proofs.Scanning.{commands_left}
use Rattle.reading.specs.Meaning.{Within}
use mathlib.Core.Path.{◌≡◌}
use Prim.Native.Nat.{◌+◌}
use Rattle.reading.proofs.scan.scan_commands.Given as goal

abbrev pub invariant-loop : goal.invariant-loop
invariant-loop l = Within l.file l.k × (l.k.m ≡ l.initial.k.m + l.counter)
    × (commands_left l.file l.n (l.initial.k.m + l.count) l.k ≡ commands_left l.file l.n (l.initial.k.m + l.count) l.initial.k)
