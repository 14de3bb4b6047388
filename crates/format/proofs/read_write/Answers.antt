-- What was read is written again by the model's round trip; a file that is refused leaves the bytes as they were.
use mathlib.Core.Path.{◌≡◌}
use Rattle.std.proofs.Common.{rules}
use Rattle.std.proofs.lemmas.Result.{err_from_is_err_and}
use Rattle.std.specs.Prelude.{Ok, Err}
use Rattle.format.proofs.FileTrip.{file_refused, file_written}
use Rattle.format.proofs.read_write.Goals as goal

pub returns-in_err-size : goal.returns-in_err-size
returns-in_err-size c =
    let a = c.args in
    let p = err_from_is_err_and c.from_residual.result c.from_residual.ensures.1 in
    let is : c.read.result ≡ Err c.in_err-size.field-0.0 = search rules in
    let w = file_refused a.file.now a.rows.now a.firsts.now a.outcomes.now a.bytes.now
    (record { byte = λ i. (c.type_inv.file i).fits }) _ c.read.new.rows _ _ c.read.ensures.call _ is in
    rw (p.1, p.2) (record { call = w.0; again = w.1 })

pub returns : goal.returns
returns c =
    let a = c.args in
    let is : c.read.result ≡ Ok c.in_ok-size.size = search rules in
    let w = file_written a.file.now a.rows.now a.firsts.now a.outcomes.now a.bytes.now
    (record { byte = λ i. (c.type_inv.file i).fits }) _ c.read.new.rows _ _ c.read.ensures.call _
    is c.write.result _ c.write.ensures.call in record { call = w.0; again = w.1 }
