-- The lists of a sound plan are the model's, so what is chosen by them is the plan's choice.
use mathlib.Core.Path.{ap}
use Rattle.model.specs.Tables.{Lists}
use Rattle.tables.specs.Meaning.{lent}
use Rattle.decide.specs.Verdicts.{unless_lost}
use Rattle.decide.proofs.verdicts.command_of.Goals as goal

pub choose-requires : goal.choose-requires
choose-requires c =
    let o = c.outcome_lists.ensures in
    (c.requires.0, rw (ap (λ (L : Lists). L.count) o.lists) c.requires.1, rw o.states c.requires.2)

pub returns : goal.returns
unfolding unless_lost
returns c =
    let p = c.args.checked.now in
    λ s l e. rw c.if-is_lost.false (c.choose.ensures (lent p.plan) p.sounds c.outcome_lists.ensures.lists s l e)
