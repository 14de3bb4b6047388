-- The lent rows are as many as the model's, so the test of the lengths is the model's too.
use lib.ListN.{length-map}
use Rattle.model.specs.SoundTest.{tables_long}
use Rattle.tables.specs.Meaning.{row_of}
use Rattle.tables.proofs.checks.long.Goals as goal

pub returns : goal.returns
unfolding tables_long
returns c = rw (length-map c.args.plan.now.rows.now row_of) c.long_enough.ensures
