-- The judging pass answers the size record or the refusal; then the tables are tested for length, and what the filling pass leaves is
-- what `read_call` gives.
use Rattle.reading.proofs.Calls.{unchanged, no_plan, cramped, all_long, room, filled}
use Rattle.reading.specs.Answers.{answer_of}
use Rattle.tables.specs.Meaning.{numbers}
use lib.ListN.{length}
use mathlib.Core.Path.{sym, ap, ◌∙◌}
use Rattle.std.proofs.lemmas.Result.{err_from_is_err_and}
use Rattle.reading.proofs.read.Goals as goal

pub returns-in_err-size : goal.returns-in_err-size
returns-in_err-size c = record {
  call = let a = c.args in
      let p = err_from_is_err_and c.from_residual.result c.from_residual.ensures.1 in
      rw (p.1, p.2)
      (unchanged a.file.now a.rows.now a.firsts.now a.outcomes.now
      (no_plan (length a.rows.now) (length a.firsts.now) (length a.outcomes.now) a.file.now
      (sym c.scan.ensures ∙ ap answer_of c.in_err-size.was)));
}

pub returns-then-not-long_enough : goal.returns-then-not-long_enough
returns-then-not-long_enough c = record {
  call = let a = c.args in
      unchanged a.file.now a.rows.now a.firsts.now a.outcomes.now
      (cramped c.in_ok-size.size (length a.rows.now) (length a.firsts.now) (length a.outcomes.now)
      c.long_enough.ensures a.file.now (sym c.scan.ensures ∙ ap answer_of c.in_ok-size.was)
      c.if-not-long_enough.true);
}

pub fill_states-requires : goal.fill_states-requires
fill_states-requires c =
    let a = c.args in
    let l = all_long c.in_ok-size.size (length a.rows.now) (length a.firsts.now) (length a.outcomes.now)
    c.long_enough.ensures c.if-not-long_enough.false in
    room a.file.now (numbers c.in_ok-size.size) (sym c.scan.ensures ∙ ap answer_of c.in_ok-size.was) l.0
    l.1 l.2

pub returns : goal.returns
returns c = record {
  call = let a = c.args in
      let l = all_long c.in_ok-size.size (length a.rows.now) (length a.firsts.now) (length a.outcomes.now)
      c.long_enough.ensures c.if-not-long_enough.false in
      filled a.file.now (numbers c.in_ok-size.size) (sym c.scan.ensures ∙ ap answer_of c.in_ok-size.was)
      a.rows.now a.firsts.now a.outcomes.now
      l.0 l.1 l.2 c.fill_states.ensures.rows c.fill_states.ensures.firsts
      c.fill_states.ensures.outcomes;
}
