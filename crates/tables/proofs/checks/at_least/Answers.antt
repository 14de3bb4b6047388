-- Room for so many places is a difference that is no smaller, once the order is known.
use mathlib.Core.Path.{sym}
use Rattle.tables.proofs.ListTest.{least_order, least_room}
use Rattle.tables.proofs.checks.at_least.Goals as goal

pub returns-then-to-from : goal.returns-then-to-from
returns-then-to-from c = sym (least_order c.args.least _ _ c.if-to-from.true)

pub returns : goal.returns
returns c = least_room c.args.least _ _ c.if-to-from.false
