-- Where the commands of a state lie, and the outcomes of them all.
use Rattle.std.specs.Prelude.{ℕ, ◌+◌}
use Rattle.model.specs.Tables.{Tables}
use Rattle.model.specs.Places.{first_command, first_outcome}
use Rattle.trim.specs.declared.stretches.Stretch.{Stretch}

abbrev pub stretch_at : Tables → ℕ → Stretch
stretch_at T s = record {
  first = first_command T s;
  end = first_command T (s + 1);
  from = first_outcome T (first_command T s);
  to = first_outcome T (first_command T (s + 1));
}
