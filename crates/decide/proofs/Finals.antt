-- What all steps of the work give together.
use mathlib.Core.Path.{◌≡◌, refl, sym, ap, ◌∙◌}
use mathlib.Core.Bool.{Bool, true, false, not, cond}
use mathlib.Core.List.{List}
use mathlib.Core.Option.{Option, none}
use Prim.Native.Nat.{ℕ, ◌<◌, ◌≤◌}
use lib.ListN.{length}
use Rattle.laws.specs.Entry.{entry}
use Rattle.laws.specs.Filled.{Filled}
use Rattle.laws.specs.Lists.{tabulate, overwrite}
use Rattle.laws.proofs.Fills.{filled_as, filled_over, filled_is, tabulate_constant}
use Rattle.laws.proofs.Agree.{Agree}
use Rattle.model.specs.Plan.{Plan, has_practice}
use Rattle.model.specs.Verdict.{lost, safe}
use Rattle.model.specs.Command.{choice, chosen}
use Rattle.model.specs.Practice.{practice_fails, mark, tally_of, tally}
use Rattle.model.specs.Tables.{Tables}
use Rattle.model.specs.SoundTest.{sound}
use Rattle.model.specs.Held.{plan_in}
use Rattle.model.specs.Calls.{rank_table, command_table, mark_table, cleared}
use Rattle.model.proofs.PracticeHits.{fault_hits}
use Rattle.model.proofs.HeldPlan.{states_held}
use Rattle.tables.specs.declared.sound_plan.SoundPlan.{SoundPlan}
use Rattle.tables.specs.Meaning.{lent}
use Rattle.nets.specs.Found.{Found}
use Rattle.decide.specs.Verdicts.{numbered, unless_lost, mark_at, StatesJudged}
use Rattle.nets.proofs.PlanHits.{choice_agree, practice_hits_agree}
use Rattle.nets.proofs.Depths.{lost_found}
use Rattle.decide.proofs.Tallies.{tally_same, tally_is}

-- a table of n places is one of a place for each state
table_is : (T : Tables) {f : ℕ → ℕ} {l₀ l : List ℕ} → T.size.n ≤ length l₀ → Filled T.size.n f l₀ l → l
    ≡ overwrite (tabulate f 0 (plan_in T).states) l₀
table_is T {f} {l₀} h w = filled_is h w ∙ ap (λ (k : ℕ). overwrite (tabulate f 0 k) l₀) (sym (states_held T))

-- the plan is decided: its tally, and the tables that hold its verdicts
pub record PlanDecided (T : Tables) (ranks commands marks scratch : List ℕ) (t : List (List ℕ)) (ranks' commands' marks' scratch' : List ℕ)
    : Type 0 where
  pub tallied : t ≡ tally (plan_in T)
  pub ranked : ranks' ≡ overwrite (rank_table (plan_in T)) ranks
  pub chose : commands' ≡ overwrite (command_table (plan_in T)) commands
  pub marked : marks' ≡ overwrite (mark_table (plan_in T)) marks
  pub clean : scratch' ≡ overwrite (cleared (plan_in T).states) scratch

lost_or_safe : (b : Bool) (x y : Option ℕ) → cond b x y ≡ cond (not b) y x
lost_or_safe true x y = refl
lost_or_safe false x y = refl

-- the lost states and those from which the practice fails are found
module _ (T : Tables) (sounds : sound T ≡ true) (L F : ℕ → Bool) (losts : Agree T.size.n L (lost (plan_in T)))
    (fails : Agree T.size.n F (practice_fails (plan_in T))) where
  abbrev P : Plan
  P = plan_in T

  chosen_found : (s : ℕ) → s < T.size.n → entry (unless_lost (L s) (choice P L s)) ≡ entry (chosen P s)
  unfolding unless_lost chosen safe
  chosen_found s l = rw (losts s l, choice_agree T sounds L (lost P) losts s l)
      (ap entry (lost_or_safe (lost P s) none (choice P (lost P) s)))

  mark_found : (s : ℕ) → s < T.size.n → mark_at P L (F s) s ≡ mark P s
  unfolding mark_at mark safe
  mark_found s l = rw (fault_hits P s, fails s l, losts s l, practice_hits_agree T sounds L (lost P) losts s l)

  tally_found : tally_of L (has_practice P) F T.size.n ≡ tally P
  tally_found =
      tally_same (has_practice P) T.size.n F (practice_fails P) fails L (lost P) losts
      ∙ ap (tally_of (lost P) (has_practice P) (practice_fails P)) (sym (states_held T)) ∙ tally_is P

module _ (p : SoundPlan) where
  pub plan_decided : {rs cs ms ss r₁ c₁ m₁ s₁ c₂ m₂ s₂ : List ℕ} {t : List (List ℕ)}
      → let T = lent p.plan in
      T.size.n ≤ length rs → T.size.n ≤ length cs → T.size.n ≤ length ms → T.size.n ≤ length ss
      → Found T rs cs ms ss r₁ c₁ m₁ s₁ → StatesJudged (plan_in T) (numbered r₁) T.size.n c₁ m₁ t c₂ m₂ → Filled T.size.n (λ _. 0) s₁ s₂
      → PlanDecided T rs cs ms ss t r₁ c₂ m₂ s₂
  unfolding rank_table command_table mark_table cleared
  plan_decided {rs} {cs} {ms} {ss} {r₁ = r₁} {m₁ = m₁} lr lc lm ls v j z =
      let T = lent p.plan in
      let losts = lost_found p.plan.size p.plan.rows.now p.plan.firsts.now p.plan.outcomes.now p.sounds v.ranked in
      record {
        tallied = j.counted ∙ tally_found T p.sounds (numbered r₁) (numbered m₁) losts v.failed;
        ranked = table_is T lr v.ranked;
        chose = table_is T lc (filled_as (chosen_found T p.sounds (numbered r₁) (numbered m₁) losts v.failed)
            (filled_over v.tos_past j.took));
        marked = table_is T lm (filled_as (mark_found T p.sounds (numbered r₁) (numbered m₁) losts v.failed)
            (filled_over v.fails_past j.marked));
        clean = table_is T ls (filled_over v.scratch_past z)
            ∙ ap (λ (l : List ℕ). overwrite l ss) (tabulate_constant 0 0 (plan_in T).states);
      }
