-- What indexed lists carry. The fact is kept as a mere one; what is asked of the index is found again, the place of a command by looking
-- for it.
use mathlib.Core.Bool.{Bool-set}
use mathlib.Core.List.{List}
use mathlib.Core.Logic.{∥∥₁_elim}
use native.Mathlib.Bridge.{le_prop}
use Prim.Native.Nat.{ℕ, suc}
use Rattle.laws.specs.Starts.{start_of}
use Rattle.model.specs.Tables.{Lists}
use Rattle.tables.specs.Ready.{Ready}
use Rattle.tables.specs.Listed.{lists_of}
use Rattle.propagate.specs.declared.indexed.IndexedLists.{IndexedLists}
use Rattle.propagate.specs.declared.indexed.RangedLists.{RangedLists}
use Rattle.propagate.specs.Net.{Indexed}
use Rattle.propagate.specs.Plans.{states_of}
use Rattle.propagate.proofs.Waits.{wait_at, wait_of}

module _ {n : ℕ} {C : Lists} {offsets users owner : List ℕ} (t : ∥ Indexed n C offsets users owner ∥₁) where
  found : Indexed n C offsets users owner
  found = record {
    offsets_long = ∥∥₁_elim t le_prop (λ i. i.offsets_long);
    users_long = ∥∥₁_elim t le_prop (λ i. i.users_long);
    owner_long = ∥∥₁_elim t le_prop (λ i. i.owner_long);
    grouped = record {
      rises = λ o h. ∥∥₁_elim t le_prop (λ i. i.grouped.rises o h);
      within = λ o h. ∥∥₁_elim t le_prop (λ i. i.grouped.within o h);
      inside = λ o p h a b. ∥∥₁_elim t le_prop (λ i. i.grouped.inside o p h a b);
      has = λ c o l m.
          wait_at users (start_of offsets n C.end o) (start_of offsets n C.end (suc o)) c
          (∥∥₁_elim t (Bool-set _ _) (λ i. let (p, a, b, e) = i.grouped.has c o l m in wait_of users _ _ c p a b e));
    };
    inside = λ c h. ∥∥₁_elim t le_prop (λ i. i.inside c h);
  }

pub lists_indexed : (p : IndexedLists) → Indexed p.lists.n (lists_of p.lists) p.offsets.now p.users.now p.owner.now
lists_indexed p = found p.indexed

pub ranged_ready : (p : RangedLists) → Ready (states_of p) (lists_of p.indexed.lists)
ranged_ready p = p.indexed.lists.ready
