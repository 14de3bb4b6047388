-- What stands in deciding's tables and what is named are what the line says.
use native.Mathlib.Omega.{arith}
use Rattle.model.specs.Held.{plan_in}
use Rattle.tables.specs.Meaning.{lent}
use Rattle.listing.proofs.Named.{states_few}
use Rattle.listing.proofs.Decided.{state_listed}
use Rattle.listing.proofs.states.Decided.list_state.Goals as goal

pub put_state_line-requires : goal.put_state_line-requires
put_state_line-requires c =
    let p = c.args.self.now.checked in
    (c.requires.1, omega (arith, c.requires.0, states_few (lent p.plan) p.sounds), c.fault_outcome-outcome.ensures.fits)

pub returns : goal.returns
returns c =
    let d = c.args.self.now in
    let p = d.checked in record {
      wrote = c.put_state_line.ensures.wrote (plan_in (lent p.plan))
          (rw c.fault_outcome-outcome.ensures.named
          (state_listed (lent p.plan) p.sounds d.holds c.requires.0 c.span-kind.ensures));
      ends = c.put_state_line.ensures.ends;
    }
