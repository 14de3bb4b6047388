-- The file is read into tables of the limits' lengths, which hold every plan: so a refusal there is the file's, and a plan that was read
-- is listed.
use native.Mathlib.Omega.{arith}
use lib.ListN.{replicate}
use Rattle.model.specs.File.{max_states, max_commands, max_outcomes}
use Rattle.listing.proofs.Files.{plan_read, refusal_read}
use Rattle.listing.proofs.file.list_file.Goals as goal

pub invariant_of-list_plan : goal.invariant_of-list_plan
invariant_of-list_plan c = record {
  sounds = (plan_read c.args.file.now (replicate max_states _) (replicate max_commands 0) (replicate max_outcomes 0) _ c.read.new.rows _ _
      c.read.ensures.call c.in-Ok.size c.in-Ok.is).0;
}

pub returns-in-Err : goal.returns-in-Err
returns-in-Err c =
    rw (refusal_read c.args.file.now (replicate max_states _) (replicate max_commands 0) (replicate max_outcomes 0) _ c.read.new.rows _ _
    c.read.ensures.call _ c.in-Err.is (omega arith) (omega arith) (omega arith))
    c.put_refusal.ensures.wrote

pub returns-in-Ok : goal.returns-in-Ok
returns-in-Ok c =
    rw (plan_read c.args.file.now (replicate max_states _) (replicate max_commands 0) (replicate max_outcomes 0) _ c.read.new.rows _ _
    c.read.ensures.call c.in-Ok.size c.in-Ok.is).1 c.list_plan.ensures
