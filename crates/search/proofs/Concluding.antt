-- The end of the search: what is left in the tables, and what is answered.
use mathlib.Core.Path.{◌≡◌, refl}
use mathlib.Core.Bool.{Bool, true, false}
use mathlib.Core.List.{List}
use Prim.Native.Nat.{ℕ}
use Rattle.laws.proofs.Fills.{filled_as, filled_over}
use Rattle.model.specs.Plan.{Plan}
use Rattle.search.specs.declared.Found.{Found}
use Rattle.search.specs.Ends.{Rounded, Finished, Answered}

pub concluded : {P : Plan} {n a : ℕ} {c₀ s₀ c s c' s' : List ℕ} {r : Found} → Rounded P n a c₀ s₀ r c s → Finished n r.lost c s c' s'
    → Answered P n a c₀ s₀ r c' s'
concluded {P} {n} {a} {c₀} {s₀} {c} {s} {c'} {s'} {r} w z = go r.lost refl
  where
    go : (b : Bool) → r.lost ≡ b → Answered P n a c₀ s₀ r c' s'
    go false e = record {
      verdict = w.verdict;
      counted = w.counted;
      takes = rw (z.safe e) (record { same = w.commands_past.same; low = w.safe e; high = w.commands_past.high });
      clean = filled_over w.scratch_past z.clean;
    }
    go true e = record {
      verdict = w.verdict;
      counted = w.counted;
      takes = filled_over w.commands_past (filled_as (λ x k. w.lost e x) (z.lost_blank e));
      clean = filled_over w.scratch_past z.clean;
    }
