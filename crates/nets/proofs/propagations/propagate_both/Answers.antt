-- The ranges of both propagations are among the states' own commands, so one index serves both; the seeds of the second come back from the
-- ranks that the first has found.
use native.Mathlib.Omega.{arith}
use Rattle.tables.specs.Listed.{lists_of}
use Rattle.propagate.specs.Net.{net_of}
use Rattle.nets.specs.Found.{OwnRanges}
use Rattle.nets.proofs.OwnIndex.{ranges_fit, own_low, owners_fit}
use Rattle.nets.proofs.Keeping.{practice_found, kept_seeded, kept_own}
use Rattle.nets.proofs.propagations.propagate_both.Goals.{After-keep_practice}
use Rattle.nets.proofs.propagations.propagate_both.Goals as goal

pub index_all-requires-clause-n_in_bounds : goal.index_all-requires-clause-n_in_bounds
index_all-requires-clause-n_in_bounds c =
    let R = c.args.lists.now.ready in (c.requires.own_ranges.long_froms, R.few_commands, R.few, R.states.few)

pub invariant_of-propagate_in : goal.invariant_of-propagate_in
invariant_of-propagate_in c = record { ranges = ranges_fit (lists_of c.args.lists.now) c.requires.own_ranges c.requires.parts }

pub propagate_in-requires-clause-owns : goal.propagate_in-requires-clause-owns
propagate_in-requires-clause-owns c = owners_fit (lists_of c.args.lists.now) c.requires.own_ranges c.index_all.ensures.owned

pub keep_practice-requires : goal.keep_practice-requires
keep_practice-requires c =
    let R = c.args.lists.now.ready in record {
      n_le_max_states = (
        R.few,
        omega (arith, c.propagate_in.auto.ranks, c.requires.n_in_bounds.0),
        omega (arith, c.propagate_in.auto.froms, c.requires.own_ranges.long_froms),
        c.requires.own_ranges_2.long_tos,
        c.requires.own_ranges_2.long_froms,
      );
      by_index = own_low (lists_of c.args.lists.now) c.requires.own_ranges_2 c.requires.parts R.few_commands;
    }

-- the ranges that are kept
kept : (c : After-keep_practice) → let L = c.args.lists.now in OwnRanges L.n L.table.count c.args.froms.now c.keep_practice.new.froms c.keep_practice.new.tos
kept c = kept_own c.keep_practice.ensures c.requires.own_ranges_2 (omega (arith, c.propagate_in.auto.froms, c.requires.own_ranges.long_froms))

pub invariant_of-propagate_in-2 : goal.invariant_of-propagate_in-2
invariant_of-propagate_in-2 c =
    record { ranges = ranges_fit (lists_of c.args.lists.now) (kept (goal.at.invariant_of-propagate_in-2 c).After-keep_practice) c.requires.parts }

pub propagate_in-requires-2-clause-owns : goal.propagate_in-requires-2-clause-owns
propagate_in-requires-2-clause-owns c =
    owners_fit (lists_of c.args.lists.now) (kept (goal.at.propagate_in-requires-2-clause-owns c).After-keep_practice) c.index_all.ensures.owned

pub propagate_in-requires-2-clause-n_in_bounds : goal.propagate_in-requires-2-clause-n_in_bounds
propagate_in-requires-2-clause-n_in_bounds c = (
  omega (arith, c.keep_practice.ensures.seeded.same, c.requires.own_ranges_2.long_froms),
  (kept (goal.at.propagate_in-requires-2-clause-n_in_bounds c).After-keep_practice).long_froms,
  omega (arith, c.propagate_in.ensures.queued.same, c.requires.n_in_bounds.1),
  kept_seeded c.keep_practice.ensures,
)

pub returns-clause-failed : goal.returns-clause-failed
returns-clause-failed c =
    let a = c.args in
    let C = lists_of a.lists.now in
    practice_found (net_of a.lists.now.n C a.froms.now a.tos.now) c.requires.n_in_bounds.2 c.requires.n_in_bounds.0 c.propagate_in.ensures.ranked
    c.keep_practice.ensures C c.requires.own_ranges_2.long_froms c.propagate_in-2.ensures.ranked
