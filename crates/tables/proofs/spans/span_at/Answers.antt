-- Where the commands end is the next row's first command, or m for the last state: one law for each way.
use native.Mathlib.Omega.{arith}
use Rattle.tables.proofs.SpanFacts.{span_last, span_inner}
use Rattle.tables.proofs.spans.span_at.Goals as goal

pub returns-then-size-s : goal.returns-then-size-s
returns-then-size-s c =
    λ F O.
    span_last _ c.args.rows.now F O _ _ _ c.requires.0 c.if-size-s.true c.row_at-row.ensures
    c.span_of.ensures

pub returns : goal.returns
returns c =
    λ F O.
    span_inner _ c.args.rows.now F O _ _ _ _ _ c.requires.0 (omega (arith, c.if-size-s.false)) c.row_at-row.ensures
    c.row_at-next.ensures c.from.ensures c.span_of-2.ensures
