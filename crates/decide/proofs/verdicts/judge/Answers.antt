-- Command, mark and place in the tally are each what the callees' contracts say of the state, of which the span was read.
use mathlib.Core.Path.{◌≡◌}
use Rattle.decide.specs.Verdicts.{numbered}
use Rattle.decide.proofs.StateVerdicts.{command_fits, judged}
use Rattle.decide.proofs.verdicts.judge.Goals as goal

pub put_option-requires-clause-fits : goal.put_option-requires-clause-fits
put_option-requires-clause-fits c =
    let l = c.requires.s_in_bounds in
    let is = c.span-span.ensures in
    command_fits _ c.args.checked.now.sounds _ l _ is _ _ _ (c.command_of-command.ensures _ l is)

pub returns : goal.returns
returns c =
    let l = c.requires.s_in_bounds in
    let is = c.span-span.ensures in
    let fails : c.contains-fails.result ≡ numbered c.args.marks.now c.args.s = rw (c.contains-fails.ensures, c.numbered.ensures.0, c.numbered.ensures.1) in
    judged _ c.args.checked.now.sounds _ l _ is _ _ _ _ _ _ c.contains-is_lost.ensures fails _ _ _ (c.command_of-command.ensures _ l is)
    c.is_fault-fault.ensures c.has_practice.ensures c.mark_of.ensures c.practice_of.ensures _ _ _ _ c.put_option.ensures c.put.ensures
