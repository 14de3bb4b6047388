-- A plan that is refused leaves the tables as they were; one that is given is within their lengths, and each table is loaded as far as its
-- count says.
use Rattle.load.proofs.Loaded.{within, no_plan, answers, fills, keeps}
use Rattle.std.proofs.Common.{rules}
use native.Mathlib.Omega.{arith}
use Rattle.load.proofs.decoding.load_plan.Goals as goal

pub load_rows-requires : goal.load_rows-requires
load_rows-requires c =
    let w = within _ _ _ _ _ c.plan_size.ensures _ c.in_ok-read.was in
    (w.rows, omega (arith, w.few_states, c.requires.0))

pub load-requires : goal.load-requires
load-requires c =
    let w = within _ _ _ _ _ c.plan_size.ensures _ c.in_ok-read.was in
    (w.firsts, omega (arith, w.few_commands, c.requires.1))

pub load-requires-2 : goal.load-requires-2
load-requires-2 c =
    let w = within _ _ _ _ _ c.plan_size.ensures _ c.in_ok-read.was in
    (w.outcomes, omega (arith, w.few_outcomes, c.requires.2))

pub returns-in_err-read : goal.returns-in_err-read
returns-in_err-read c =
    let e = no_plan _ _ _ _ _ c.plan_size.ensures _ c.in_err-read.was in record { answered = search rules; rows = keeps _ _ _ _ e _ _; firsts = keeps _ _ _ _ e _ _; outcomes = keeps _ _ _ _ e _ _ }

pub returns : goal.returns
returns c =
    let w = within _ _ _ _ _ c.plan_size.ensures _ c.in_ok-read.was in record { answered = answers _ _ _ _ w; rows = fills _ _ _ _ w _ _ c.load_rows.ensures; firsts = fills _ _ _ _ w _ _ c.load.ensures; outcomes = fills _ _ _ _ w _ _ c.load-2.ensures }
