-- The mark behind a file that was read has its counts, and a refusal is handed on.
use Rattle.reading.proofs.Scanning.{read_long, read_size, read_refused}
use Rattle.reading.proofs.Passing.{went}
use Rattle.tables.specs.Meaning.{numbers}
use Rattle.model.specs.Refusal.{given}
use native.Mathlib.Omega.{arith}
use mathlib.Core.Path.{ap, ◌∙◌}
use Rattle.std.proofs.lemmas.Result.{err_from_is_err_and}
use Rattle.reading.proofs.scan.scan.Goals as goal

pub number-requires : goal.number-requires
number-requires c =
    omega (
      arith,
      read_long c.args.file.now c.in_ok-k.k
          (went c.in_ok-k.ensures).0,
    )

pub number-requires-2 : goal.number-requires-2
number-requires-2 c =
    omega (
      arith,
      read_long c.args.file.now c.in_ok-k.k
          (went c.in_ok-k.ensures).0,
    )

pub returns : goal.returns
returns c =
    ap (λ z. given (numbers z)) c.new.ensures.made
    ∙ read_size c.args.file.now c.in_ok-k.k (went c.in_ok-k.ensures).0
    c.number.ensures c.number-2.ensures

pub returns-in_err-k : goal.returns-in_err-k
returns-in_err-k c =
    let p = err_from_is_err_and c.from_residual.result c.from_residual.ensures.1 in
    rw (p.1, p.2) (read_refused c.in_err-k.was c.judge.ensures)
