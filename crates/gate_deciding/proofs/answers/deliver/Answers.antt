-- A lack of room leaves the slices as they were; else each slice begins with what deciding left.
use mathlib.Core.Path.{◌≡◌}
use mathlib.Core.Bool.{true, false}
use Rattle.std.proofs.Common.{rules}
use Rattle.gate_deciding.proofs.Delivering.{cramped, delivered}
use Rattle.gate_deciding.proofs.answers.deliver.Goals as goal

pub returns-then-not-room : goal.returns-then-not-room
returns-then-not-room c =
    let short : c.room.result ≡ false = search rules in
    record { call = cramped _ _ _ _ _ _ _ _ _ _ _ c.room.ensures short }

pub returns : goal.returns
returns c =
    let enough : c.room.result ≡ true = search rules in
    record {
      call = delivered _ _ _ _ _ _ _ _ _ _ _ c.room.ensures enough c.store.ensures c.store-2.ensures c.store-3.ensures c.store-4.ensures
          c.store_tally.ensures;
    }
