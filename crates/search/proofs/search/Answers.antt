-- The tests are those of the definition, in its order; where all pass, the rounds find what the definition says.
use mathlib.Core.Path.{◌≡◌}
use native.Mathlib.Omega.{arith}
use Rattle.std.proofs.Common.{rules}
use Rattle.std.specs.Prelude.{Err, true}
use Rattle.model.specs.SoundTest.{sound}
use Rattle.tables.specs.Meaning.{lent}
use Rattle.search.proofs.Concluding.{concluded}
use Rattle.search.proofs.Replying.{replies_unsound, replies_stranger, replies_cramped, replies_found}
use Rattle.search.proofs.search.Goals.{In_ok-checked}
use Rattle.search.proofs.search.Goals as goal

pub returns-in_err-checked : goal.returns-in_err-checked
returns-in_err-checked c =
    let e = c.in_err-checked.ensures in
    let is : c.from_residual.result ≡ Err c.in_err-checked.field-0.0 = search rules in
    let w = replies_unsound (lent c.args.plan.now) c.args.start c.args.commands.now c.args.scratch.now e.1 _ (rw is (rw e.0)) in record { call = w.0; demand3 = w.1 }

sounds : (c : In_ok-checked) → sound (lent c.args.plan.now) ≡ true
sounds c = rw c.in_ok-checked.ensures at c.in_ok-checked.checked.sounds

pub returns-then-n-start : goal.returns-then-n-start
returns-then-n-start c =
    let w = replies_stranger (lent c.args.plan.now) _ c.args.commands.now c.args.scratch.now (sounds (goal.at.returns-then-n-start c).In_ok-checked) c.if-n-start.true in record { call = w.0; demand3 = w.1 }

pub returns-then-commands-n : goal.returns-then-commands-n
returns-then-commands-n c =
    let w = replies_cramped (lent c.args.plan.now) _ c.args.commands.now c.args.scratch.now (sounds (goal.at.returns-then-commands-n c).In_ok-checked) (omega arith) c.then-commands-n.either in record { call = w.0; demand3 = w.1 }

pub walk_rounds-found-requires : goal.walk_rounds-found-requires
walk_rounds-found-requires c = let e = c.in_ok-checked.ensures in rw e (c.if-n-start.false, c.if-commands-n.false, c.if-scratch-n.false)

pub returns : goal.returns
returns c =
    let rounded = rw c.in_ok-checked.ensures at c.walk_rounds-found.ensures in
    let w = replies_found (lent c.args.plan.now) _ c.args.commands.now c.args.scratch.now (sounds (goal.at.returns c).In_ok-checked) c.if-n-start.false
    c.if-commands-n.false c.if-scratch-n.false _ _ _ (concluded rounded c.finish.ensures) in record { call = w.0; demand3 = w.1 }
