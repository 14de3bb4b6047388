-- The invariant is that what is left to fill, past the outcomes left of a command, makes the tables what all the commands make them; a
-- turn takes one command off what is left, or writes one outcome.
use Rattle.reading.proofs.FillCommands.{Underway}
use Rattle.reading.specs.declared.bytes.Mark.{Mark}
use Rattle.reading.specs.Filling.{commands_in}
use lib.ListN.{length, drop}
use Prim.Native.Nat.{◌-◌, ◌≤◌}
use Rattle.reading.proofs.fill.fill_commands.Given as goal

abbrev pub invariant-loop-left : goal.invariant-loop-left
invariant-loop-left l = let k₀ : Mark = record { at = l.initial.at; m = l.initial.m; t = l.initial.t } in
    (l.m ≤ l.end) × Underway l.file l.initial.firsts l.initial.outcomes k₀ (commands_in (l.end - l.initial.m) (drop l.initial.at l.file)) l.end l.firsts l.outcomes l.at l.m l.t l.left

abbrev pub decreases-loop-left : goal.decreases-loop-left
decreases-loop-left l = length l.file - l.at
