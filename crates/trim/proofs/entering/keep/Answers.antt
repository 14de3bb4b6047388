-- What the walk has reached are the entered states, so what is listed is the map.
use native.Mathlib.Omega.{arith}
use lib.Seq.{length-take-le}
use Rattle.laws.proofs.Sets.{many_bound}
use Rattle.tables.specs.Meaning.{lent}
use Rattle.tables.proofs.SoundPlans.{plan_ready}
use Rattle.walks.specs.Flags.{walked_in}
use Rattle.trim.proofs.KeptStates.{listed_map}
use Rattle.trim.proofs.entering.keep.Goals as goal

pub fill-requires : goal.fill-requires
fill-requires c = (omega (arith, (plan_ready c.args.checked.now).few), omega arith)

pub enter_all-requires : goal.enter_all-requires
enter_all-requires c =
    let few = (plan_ready c.args.checked.now).few in
    (omega (arith, few, c.fill.ensures.same), omega (arith, few, c.requires), c.fill.ensures.low)

pub list-count-requires : goal.list-count-requires
list-count-requires c =
    let few = (plan_ready c.args.checked.now).few in (
      few,
      omega (arith, few, c.enter_all.auto, c.fill.ensures.same),
      omega (arith, few, c.enter_all.auto, c.requires),
    )

pub slice_bounds-result-end : goal.slice_bounds-result-end
slice_bounds-result-end c =
    let few = (plan_ready c.args.checked.now).few in
    let many = many_bound (walked_in c.enter_all.new.flags) c.args.checked.now.plan.size.n in
    omega (
      arith,
      length-take-le c.list-count.result c.list-count.new.kept
          (omega (arith, few, many, c.requires, c.enter_all.auto, c.list-count.auto, c.list-count.ensures.value)),
    )

pub invariant_of-result : goal.invariant_of-result
invariant_of-result c =
    let few = (plan_ready c.args.checked.now).few in
    record {
      map =
          listed_map (lent c.args.checked.now.plan) (walked_in _) c.enter_all.ensures _ (omega (arith, few, c.enter_all.auto, c.requires))
          c.list-count.ensures.value c.list-count.ensures.kept_after;
    }
