-- Head, states and end are put one behind the other, and that is the file of the plan; a refusal puts nothing.
use native.Mathlib.Omega.{arith}
use mathlib.Core.Path.{◌≡◌, refl}
use Rattle.std.proofs.Common.{rules}
use Rattle.std.proofs.lemmas.Grind.{common_steps}
use Rattle.std.proofs.lemmas.Result.{err_from_is_err_and}
use Rattle.std.specs.Prelude.{false}
use Rattle.model.specs.SoundTest.{sound}
use Rattle.tables.specs.declared.Refusal.TheVariants.{Unsound}
use Rattle.tables.specs.Meaning.{lent}
use Rattle.writing.proofs.FileFacts.{unsound, cramped, parts_fit, file_put, written}
use Rattle.writing.proofs.write.Goals as goal

pub returns-in_err-checked : goal.returns-in_err-checked
returns-in_err-checked c = record {
  call = let p = err_from_is_err_and c.from_residual.result c.from_residual.ensures.1 in
      let e : (c.in_err-checked.field-0.0 ≡ Unsound) × (sound (lent c.args.plan.now) ≡ false) = search rules in
      rw (p.1, p.2, e.0) (unsound (lent c.args.plan.now) c.args.bytes.now e.1);
}

pub returns-then-bytes-file_length : goal.returns-then-bytes-file_length
returns-then-bytes-file_length c = record {
  call = let p = c.in_ok-checked.checked in
      let is : p.plan ≡ c.args.plan.now = search rules in
      rw (← is) (cramped (lent p.plan) p.sounds c.args.bytes.now (rw c.file_length.ensures at c.if-bytes-file_length.true));
}

pub write_head-requires : goal.write_head-requires
write_head-requires c =
    let p = c.in_ok-checked.checked in
    omega (arith, parts_fit (lent p.plan) p.sounds c.args.bytes.now (rw c.file_length.ensures at c.if-bytes-file_length.false))

pub write_states-requires : goal.write_states-requires
write_states-requires c =
    let p = c.in_ok-checked.checked in
    omega (arith, parts_fit (lent p.plan) p.sounds c.args.bytes.now (rw c.file_length.ensures at c.if-bytes-file_length.false))

pub write_end-requires : goal.write_end-requires
write_end-requires c =
    let p = c.in_ok-checked.checked in
    omega (arith, parts_fit (lent p.plan) p.sounds c.args.bytes.now (rw c.file_length.ensures at c.if-bytes-file_length.false))

pub returns : goal.returns
returns c = record {
  call = let p = c.in_ok-checked.checked in
      let is : p.plan ≡ c.args.plan.now = search rules in
      rw (← is)
      (written (lent p.plan) p.sounds c.args.bytes.now (rw c.file_length.ensures at c.if-bytes-file_length.false) refl refl
      (file_put (lent p.plan) c.write_head.ensures c.write_states.ensures c.write_end.ensures) (grind (arith, common_steps)));
}
