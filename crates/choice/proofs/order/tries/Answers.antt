-- A practice that is a command has a place of its own before all the commands; else there are these only.
use Rattle.choice.specs.Order.{alone}
use Rattle.choice.proofs.Orders.{places_all, places_more}
use Rattle.choice.proofs.order.tries.Goals as goal

pub returns-then-span-count : goal.returns-then-span-count
returns-then-span-count c =
    λ L. places_more (alone L c.args.span) 0 c.if-span-count.true

pub returns : goal.returns
returns c =
    λ L. places_all (alone L c.args.span) 0 c.if-span-count.false
