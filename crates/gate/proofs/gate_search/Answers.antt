-- The clause `demand3` follows from what `search_call` ensures (Promised.antt, `searches`).
use Rattle.model.specs.Boundary.{tables_in}
use Rattle.gate.proofs.Promised.{searches}
use Rattle.gate.proofs.gate_search.Goals as goal

pub returns-clause-demand3 : goal.returns-clause-demand3
returns-clause-demand3 c =
    let a = c.args in
    (searches (tables_in a.size.now a.rows.now a.firsts.now a.outcomes.now) a.start a.commands.now a.scratch.now
    a.answer.now
    c.search_call.ensures.call).1
