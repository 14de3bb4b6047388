-- What is refused leaves every table as it was; else the propagations, the last pass over the states and the clearing of scratch leave what
-- `decide_call` gives.
use mathlib.Core.Path.{◌≡◌}
use Prim.Native.Nat.{◌≤◌}
use native.Mathlib.Omega.{arith}
use lib.ListN.{length}
use Rattle.std.proofs.Common.{rules}
use Rattle.std.specs.Prelude.{Err}
use Rattle.tables.specs.declared.Refusal.TheVariants.{Unsound}
use Rattle.decide.proofs.Decisions.{short, long, demanded, unsound, cramped, decides}
use Rattle.decide.proofs.Finals.{plan_decided}
use Rattle.decide.proofs.decide.Goals as goal

pub returns-in_err-checked-clause-call : goal.returns-in_err-checked-clause-call
returns-in_err-checked-clause-call c =
    let e : c.from_residual.result ≡ Err Unsound = search rules in
    rw e (unsound _ _ _ _ _ c.in_err-checked.ensures.1)

pub returns-then-ranks-n-clause-call : goal.returns-then-ranks-n-clause-call
returns-then-ranks-n-clause-call c =
    let p = c.in_ok-checked.checked in
    let a = c.args in
    rw (← c.in_ok-checked.ensures)
    (cramped _ _ _ _ _ p.sounds
    (short p.plan.size.n (length a.ranks.now) (length a.commands.now) (length a.marks.now) (length a.scratch.now)
    (λ r k m s. omega (arith, c.then-ranks-n.either))))

pub returns : goal.returns
returns c =
    let p = c.in_ok-checked.checked in
    let n = p.plan.size.n in
    let r : n ≤ length c.args.ranks.now = omega arith in
    let k : n ≤ length c.args.commands.now = omega arith in
    let m : n ≤ length c.args.marks.now = omega arith in
    let s : n ≤ length c.args.scratch.now = omega arith in
    let judged = rw (c.numbered.ensures.0, c.numbered.ensures.1) at c.judge_all-tally.ensures in
    let leaves = plan_decided p r k m s c.propagate_plan.ensures judged c.fill.ensures in
    let call = decides _ _ _ _ _ p.sounds (long _ _ _ _ _ r k m s) leaves in
    rw (← c.in_ok-checked.ensures) (record { call = call; demand3 = demanded _ _ _ _ _ _ call })
