-- What is made of the lists is their index.
use native.Mathlib.Omega.{arith}
use Rattle.tables.specs.Listed.{lists_of}
use Rattle.propagate.proofs.Indexes.{index_fits}
use Rattle.nets.proofs.propagations.index_all.Goals as goal

pub own-requires-clause-n_le_max_states : goal.own-requires-clause-n_le_max_states
own-requires-clause-n_le_max_states c = c.args.lists.now.ready.few

pub returns-clause-indexed : goal.returns-clause-indexed
returns-clause-indexed c =
    let v = c.requires.n_in_bounds in
    index_fits (lists_of c.args.lists.now) c.args.starts.now _ _ _ (omega (arith, c.group.auto.offsets, v.2)) (omega (arith, c.group.auto.users, v.3))
    (omega (arith, c.own.auto.owner, v.1)) c.group.ensures c.own.ensures
