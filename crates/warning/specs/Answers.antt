-- What the answer of the warning time stands for.
use Rattle.std.specs.Prelude.{Option, Some, None, Result}
use Rattle.std.proofs.Math.Option.{Option as ModelOption, none, some}
use Rattle.model.specs.Refusal.{Answer}
use Rattle.model.specs.Warning.{Time as ModelTime}
use Rattle.tables.specs.declared.Refusal.{Refusal}
use Rattle.tables.specs.Meaning.{answered}
use Rattle.warning.specs.declared.Time.{Time}

abbrev pub meant : Time → ModelTime
meant t = record { minutes = t.minutes; seconds = t.seconds }

-- minutes and seconds, or no limit
abbrev pub limit_of : Option Time → ModelOption ModelTime
limit_of None = none
limit_of (Some t) = some (meant t)

-- the limit, or the refusal
abbrev pub answer_of : Result (Option Time) Refusal → Answer (ModelOption ModelTime)
answer_of = answered limit_of
