-- What is stored is the entry for the answer.
use mathlib.Core.Path.{◌∙◌, ap}
use Rattle.std.specs.Prelude.{set}
use Rattle.tables.proofs.Options.{option_entry}
use Rattle.tables.proofs.entries.put_option.Goals as goal

pub returns : goal.returns
returns c = c.put.ensures ∙ ap (set c.args.table.now c.args.i) (c.unwrap_or.ensures ∙ option_entry c.args.x)
