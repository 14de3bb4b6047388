-- In a sound plan the choice is the command at the first place of the trying order that is clear.
use mathlib.Core.Path.{subst}
use native.Mathlib.Omega.{arith}
use Rattle.laws.specs.First.{FirstNot}
use Rattle.model.specs.Tables.{Lists}
use Rattle.choice.specs.Within.{members}
use Rattle.choice.specs.Order.{alone, places, hit_at}
use Rattle.choice.proofs.Choices.{first_chosen}
use Rattle.choice.proofs.choosing.choose.Goals as goal

pub tried_at-requires : goal.tried_at-requires
tried_at-requires c = omega (arith, c.args.lists.now.ready.few_commands)

pub returns : goal.returns
returns c = λ T sounds is s l e.
    first_chosen _ _ s l e _ sounds
    (subst (λ (L : Lists). let P = alone L c.args.span in FirstNot (hit_at P (members c.args.set.now) 0) 0 (places P 0) c.choose_from-place.result)
    is c.choose_from-place.ensures) (c.tried_at.ensures _)
