-- A list after a store.
use mathlib.Core.Path.{◌≡◌}
use mathlib.Core.Bool.{cond}
use mathlib.Core.Logic.{⊎_elim}
use mathlib.Core.List.{List}
use Prim.Native.Nat.{ℕ, ◌<◌}
use lib.Dec.{eqb}
use lib.ListN.{length, get_or, set}
use lib.Seq.{get_or-set_same, get_or-set_other}
use borrow.Author.Tests.{eqb-true, eqb-false}
use Rattle.laws.proofs.Tests.{true_or_false}

pub entry_after : (l : List ℕ) (x v y : ℕ) → x < length l → get_or (set l x v) y 0 ≡ cond (eqb y x) v (get_or l y 0)
entry_after l x v y h =
    ⊎_elim
    (λ e. let q = eqb-true y x e in rw (e, q) (get_or-set_same l x v 0 h))
    (λ e. rw e (get_or-set_other l x y v 0 (eqb-false y x e)))
    (true_or_false (eqb y x))
