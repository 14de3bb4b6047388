-- What was written is read again by the model's round trip; tables that are refused leave the second ones as they were.
use lib.Seq.{length-take-le}
use mathlib.Core.Path.{◌≡◌, sym}
use native.Mathlib.Omega.{arith}
use Rattle.std.proofs.Common.{rules}
use Rattle.std.proofs.lemmas.Result.{err_from_is_err_and}
use Rattle.std.specs.Prelude.{Ok, Err}
use Rattle.tables.specs.Meaning.{lent}
use Rattle.format.proofs.TablesTrip.{written_fits, tables_refused, tables_read}
use Rattle.format.proofs.write_read.Goals as goal

pub slice_bounds-read-end : goal.slice_bounds-read-end
slice_bounds-read-end c =
    let is : c.write.result ≡ Ok c.in_ok-length.length = search rules in
    let fits = written_fits (lent c.args.plan.now) c.args.bytes.now _ _ c.write.ensures.call is in
    omega (arith, fits, c.write.auto.bytes)

pub slice_bounds-read-end-2 : goal.slice_bounds-read-end-2
slice_bounds-read-end-2 c =
    let is : c.write.result ≡ Ok c.in_ok-length.length = search rules in
    let fits = written_fits (lent c.args.plan.now) c.args.bytes.now _ _ c.write.ensures.call is in
    sym (length-take-le _ _ (omega (arith, fits, c.write.auto.bytes)))

pub returns-in_err-length : goal.returns-in_err-length
returns-in_err-length c =
    let a = c.args in
    let z = a.plan.now in
    let p = err_from_is_err_and c.from_residual.result c.from_residual.ensures.1 in
    let is : c.write.result ≡ Err c.in_err-length.field-0.0 = search rules in
    let w = tables_refused z.size z.rows.now z.firsts.now z.outcomes.now a.bytes.now a.rows2.now a.firsts2.now
    a.outcomes2.now _ _ c.write.ensures.call _ is in
    rw (p.1, p.2) (record { call = w.0; again = w.1 })

pub returns : goal.returns
returns c =
    let a = c.args in
    let z = a.plan.now in
    let is : c.write.result ≡ Ok c.in_ok-length.length = search rules in
    let w = tables_read z.size z.rows.now z.firsts.now z.outcomes.now a.bytes.now a.rows2.now a.firsts2.now
    a.outcomes2.now _ _ c.write.ensures.call _ is c.read.result c.read.new.rows _ _ c.read.ensures.call in record { call = w.0; again = w.1 }
