-- The clause `demand3` follows from what `decide_call` ensures (Promised.antt, `decides`).
use Rattle.model.specs.Boundary.{tables_in}
use Rattle.gate.proofs.Promised.{decides}
use Rattle.gate.proofs.gate_decide.Goals as goal

pub returns-clause-demand3 : goal.returns-clause-demand3
returns-clause-demand3 c =
    let a = c.args in
    (decides (tables_in a.size.now a.rows.now a.firsts.now a.outcomes.now) a.ranks.now a.commands.now a.marks.now
    a.scratch.now a.tally.now
    c.decide_call.ensures.call).1
