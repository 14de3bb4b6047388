-- What is copied of a kept state is what the trimmed state has: its row, first outcomes and outcomes.
use mathlib.Core.Path.{◌≡◌, refl, sym, ap, ◌∙◌}
use mathlib.Core.Bool.{true}
use mathlib.Core.List.{List, [], ◌∷◌, map}
use Prim.Native.Nat.{ℕ, ◌+◌, ◌-◌, ◌<◌}
use native.Mathlib.Omega.{arith}
use lib.ListN.{length, get_or, length-map}
use lib.Seq.{slice}
use Rattle.laws.specs.Lists.{joined}
use Rattle.laws.proofs.Steps.{tabulate_slice}
use Rattle.laws.proofs.Maps.{map_agree, map_tabulate, joined_map}
use Rattle.model.specs.Tables.{Row as ModelRow, row_for, firsts_from}
use Rattle.model.specs.Held.{state_at, state_of}
use Rattle.model.specs.Trim.{new_number, trim_state}
use Rattle.model.proofs.HeldPlan.{state_held}
use Rattle.model.proofs.TrimmedPlan.{kept as isKept, old_number, old_kept, new_inside, old_new, kept_inside}
use Rattle.tables.specs.Meaning.{lent, row_of}
use Rattle.tables.specs.Spans.{no_row}
use Rattle.tables.proofs.SpanFacts.{row_held}
use Rattle.tables.proofs.SoundPlans.{plan_ready}
use Rattle.trim.specs.declared.stretches.Stretch.{Stretch}
use Rattle.trim.specs.declared.kept_states.KeptStates.{KeptStates}
use Rattle.trim.specs.Kept.{row_after}
use Rattle.trim.proofs.KeptStates.{tree_in, StretchOf, kept_good, kept_count, kept_old}
use Rattle.trim.proofs.LeftStates.{trimmed_at}
use Rattle.trim.proofs.EnteredStates.{outcome_entered}

-- where lists begin does not depend on what is in them
firsts_renumbered : (new : ℕ → ℕ) (t : ℕ) (cs : List (List ℕ)) → firsts_from t (map (map new) cs) ≡ firsts_from t cs
unfolding firsts_from
firsts_renumbered new t [] = refl
firsts_renumbered new t (c ∷ cs) =
    ap (λ (l : List ℕ). t ∷ l)
    (ap (λ (k : ℕ). firsts_from (t + k) (map (map new) cs)) (length-map c new) ∙ firsts_renumbered new (t + length c) cs)

module _ (k : KeptStates) where
  -- the row of new state i, with another first command, is that of the trimmed state
  pub row_copied : (i s m : ℕ) → s ≡ old_number (tree_in k) i → s < k.checked.now.plan.size.n
      → row_of (row_after (get_or k.checked.now.plan.rows.now s no_row) m) ≡ row_for m (trimmed_at (tree_in k) i)
  unfolding trim_state state_at
  row_copied i s m is l =
      rw (← is, state_held (lent k.checked.now.plan) s l)
      (ap (λ (r : ModelRow). record { kind = r.kind; first = m; practice = r.practice }) (sym (row_held _ _ _ _ s)))

  module _ (i : ℕ) {r : Stretch} (s : StretchOf k i r) where
    cs : List (List ℕ)
    cs = (state_of (tree_in k) (old_number (tree_in k) i)).commands

    -- where its commands lie, their first outcomes, counted from another place
    pub firsts_copied : (t : ℕ)
        → map (λ x. x - r.from + t) (slice r.first r.end k.checked.now.plan.firsts.now) ≡ firsts_from t (trimmed_at (tree_in k) i).commands
    unfolding cs trim_state
    firsts_copied t =
        let firsts = k.checked.now.plan.firsts.now in
        ap (map (λ x. x - r.from + t))
        (sym (tabulate_slice firsts 0 r.first r.end s.rises (omega (arith, s.below, (plan_ready k.checked.now).long_firsts))))
        ∙ map_tabulate (λ x. x - r.from + t) (λ c. get_or firsts c 0) r.first (r.end - r.first)
        ∙ sym (firsts_renumbered (new_number (tree_in k)) t cs ∙ s.begins t)

    -- and their outcomes; numbers has the new number of each state that is kept
    module _ (l : i < length k.olds.now) (numbers : List ℕ)
        (told : (j : ℕ) → j < length k.olds.now → get_or numbers (get_or k.olds.now j 0) 0 ≡ j) where
      new_told : (x : ℕ) → isKept (tree_in k) x ≡ true → get_or numbers x 0 ≡ new_number (tree_in k) x
      new_told x e =
          let in_plan = kept_inside (tree_in k) (kept_good k) x e in
          let j = new_number (tree_in k) x in
          let h : j < length k.olds.now = omega (arith, kept_count k, new_inside (tree_in k) x in_plan e) in
          ap (λ (y : ℕ). get_or numbers y 0) (sym (kept_old k j ∙ old_new (tree_in k) x in_plan e)) ∙ told j h

      pub outcomes_copied : map (λ x. get_or numbers x 0) (slice r.from r.to k.checked.now.plan.outcomes.now)
          ≡ joined (trimmed_at (tree_in k) i).commands
      unfolding cs trim_state
      outcomes_copied =
          let old = old_kept (tree_in k) i (omega (arith, kept_count k)) in
          ap (map (λ x. get_or numbers x 0)) s.outs
          ∙ map_agree (λ x. get_or numbers x 0) (new_number (tree_in k)) (joined cs)
          (λ x m. new_told x (outcome_entered (tree_in k) (kept_good k) (old_number (tree_in k) i) x old m))
          ∙ sym (joined_map (new_number (tree_in k)) cs)
