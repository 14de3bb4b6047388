-- The file is read into tables of the limits' lengths, which hold every plan: what is refused there or for want of room leaves every
-- slice as it was, and what is stored from the tables is what `gate_read_call` gives.
use native.Mathlib.Omega.{arith}
use mathlib.Core.List.{map}
use lib.ListN.{replicate}
use Rattle.model.specs.File.{max_states, max_commands, max_outcomes}
use Rattle.std.proofs.lemmas.Result.{err_from_is_err_and}
use Rattle.tables.specs.Meaning.{row_of}
use Rattle.gate_reading.proofs.Answered.{Read, refuses, cramps, rows_ready, lists_ready, gives}
use Rattle.gate_reading.proofs.call.read_into.Goals.{After-read}
use Rattle.gate_reading.proofs.call.read_into.Goals as goal

reading : (c : After-read) →
    let a = c.args in
    Read a.file.now a.size.now a.rows.now a.firsts.now a.outcomes.now c.read.result c.read.new.rows c.read.new.firsts c.read.new.outcomes
reading c = record {
  states = map row_of (replicate max_states _);
  commands = replicate max_commands 0;
  entries = replicate max_outcomes 0;
  reads = c.read.ensures.call;
  limits = (omega arith, omega arith, omega arith);
}

pub returns-in_err-z : goal.returns-in_err-z
returns-in_err-z c =
    let p = err_from_is_err_and c.from_residual.result c.from_residual.ensures.1 in
    rw (p.1, p.2) (refuses (reading (goal.at.returns-in_err-z c).After-read) c.in_err-z.was)

pub returns-then-not-room : goal.returns-then-not-room
returns-then-not-room c =
    cramps (reading (goal.at.returns-then-not-room c).After-read) c.in_ok-z.was c.room.ensures c.if-not-room.true

pub store_rows-requires : goal.store_rows-requires
store_rows-requires c =
    rows_ready (reading (goal.at.store_rows-requires c).After-read) c.in_ok-z.was c.room.ensures c.if-not-room.false

pub store_lists-requires : goal.store_lists-requires
store_lists-requires c =
    let w = lists_ready (reading (goal.at.store_lists-requires c).After-read) c.in_ok-z.was c.room.ensures c.if-not-room.false in
    record { size_bytes_in_bounds = w.0; m_in_bounds = w.1.0; t_in_bounds = w.1.1 }

pub returns : goal.returns
returns c =
    gives (reading (goal.at.returns c).After-read) c.in_ok-z.was c.room.ensures c.if-not-room.false c.store_rows.ensures
    (c.store_lists.ensures.size, (c.store_lists.ensures.firsts, c.store_lists.ensures.outcomes))
