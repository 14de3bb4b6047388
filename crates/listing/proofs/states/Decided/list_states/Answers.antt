-- The lines of the states before s were put; a turn puts one more.
use Rattle.model.specs.Held.{plan_in}
use Rattle.tables.specs.Meaning.{lent}
use Rattle.listing.proofs.StateLines.{none_put, lines_room, next_put, all_put}
use Rattle.listing.proofs.states.Decided.list_states.Goals as goal

pub loop-s-init : goal.loop-s-init
loop-s-init c = none_put (plan_in (lent c.args.self.now.checked.plan)) _

pub list_state-requires : goal.list_state-requires
list_state-requires c =
    let P = plan_in (lent c.args.self.now.checked.plan) in
    (c.loop-s-test.true, lines_room P c.loop-s.s c.loop-s.invariant c.requires c.loop-s-test.true)

pub loop-s-preserved : goal.loop-s-preserved
loop-s-preserved c = next_put (plan_in (lent c.args.self.now.checked.plan)) c.loop-s.s c.loop-s.invariant c.list_state.ensures.wrote

pub returns : goal.returns
returns c =
    all_put (plan_in (lent c.args.self.now.checked.plan)) c.loop-s.s c.loop-s.invariant c.loop-s.auto.s-end c.loop-s-test.false
