-- No outcome is named where the mark tells of no fault; else it is what the test of the practice's outcomes answers.
use mathlib.Core.Path.{ap}
use native.Mathlib.Omega.{arith}
use Rattle.model.specs.Tables.{Lists}
use Rattle.tables.specs.Meaning.{lent}
use Rattle.listing.proofs.Named.{commands_few, none_named, practice_given, some_named, named_fits}
use Rattle.listing.proofs.states.Decided.fault_outcome.Goals as goal

pub returns-then-mark-lt-FAULT-clause-named : goal.returns-then-mark-lt-FAULT-clause-named
returns-then-mark-lt-FAULT-clause-named c =
    let d = c.args.self.now in
    none_named (lent d.checked.plan) d.checked.sounds d.holds c.args.s c.requires c.if-mark-lt-FAULT.true

pub overflow_add-span : goal.overflow_add-span
overflow_add-span c =
    let d = c.args.self.now in
    let T = lent d.checked.plan in
    rw c.span-span.ensures
    (omega (arith, practice_given T d.checked.sounds d.holds c.args.s c.requires c.if-mark-lt-FAULT.false, commands_few T d.checked.sounds))

pub command_hit-requires : goal.command_hit-requires
command_hit-requires c =
    let d = c.args.self.now in
    let o = c.outcome_lists.ensures in (
      rw (c.span-span.ensures, ap (λ (L : Lists). L.count) o.lists)
          (practice_given (lent d.checked.plan) d.checked.sounds d.holds c.args.s c.requires c.if-mark-lt-FAULT.false),
      rw o.states d.holds.long_ranks,
    )

pub returns : goal.returns
returns c =
    let d = c.args.self.now in
    let T = lent d.checked.plan in
    let named = some_named T d.checked.sounds d.holds c.args.s c.requires c.if-mark-lt-FAULT.false
    (rw c.outcome_lists.ensures.lists at (rw c.span-span.ensures at c.command_hit.ensures)) in
    record { named = named; fits = named_fits T d.checked.sounds d.holds c.args.s c.requires c.command_hit.result named }
