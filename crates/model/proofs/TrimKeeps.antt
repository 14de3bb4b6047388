-- What a trimmed plan keeps: the states at which runs from the start end, with their commands, practices, verdicts, ranks and choices.
use mathlib.Core.Path.{◌≡◌, sym, subst, ◌∙◌}
use mathlib.Core.Bool.{true}
use mathlib.Core.Logic.{◌↔◌}
use Prim.Native.Nat.{ℕ, ◌<◌}
use native.Mathlib.Omega.{arith}
use lib.ListN.{length}
use Rattle.model.specs.File.{Tree}
use Rattle.model.specs.Held.{plan_of}
use Rattle.model.specs.Trim.{entered, new_number, trim_tree}
use Rattle.model.specs.Trimmed.{Enters, Keeps}
use Rattle.model.proofs.Good.{Good}
use Rattle.model.proofs.Valid.{good_valid}
use Rattle.model.proofs.Entered.{entered_iff}
use Rattle.model.proofs.Renumbered.{part_outcomes, part_rank, part_lost, part_chosen}
use Rattle.model.proofs.TrimmedPlan.{
  old_number,
  trim_long,
  map_rises,
  old_kept,
  new_inside,
  old_new,
  start_kept,
  kept_inside,
  trim_part,
}
use Rattle.model.proofs.TrimGood.{trim_good}

module _ (p : Tree) (g : Good p) (old : ℕ → ℕ) (is : (i : ℕ) → i < length (trim_tree p).states → old i ≡ old_number p i) where
  -- the kept states are those at which a run from the start ends
  kept_states : (s : ℕ) → Enters (plan_of p) s ↔ ((i : ℕ) × (i < length (trim_tree p).states) × (old i ≡ s))
  unfolding plan_of
  kept_states s =
      let iff = entered_iff (plan_of p) (good_valid p g) g.inside s in (
        λ r.
            let e = iff.1 r in
            let l = kept_inside p g s e in
            let k = new_inside p s l e in
            (new_number p s, k, is (new_number p s) k ∙ old_new p s l e),
        λ (i, l, q). iff.0 (subst (λ (x : ℕ). entered (plan_of p) x ≡ true) (sym (is i l) ∙ q) (old_kept p i l)),
      )

  kept_start : old (trim_tree p).start ≡ p.start
  unfolding trim_tree
  kept_start = is (trim_tree p).start (trim_good p g).inside ∙ old_new p p.start g.inside (start_kept p)

  pub trim_keeps : Keeps (plan_of p) (plan_of (trim_tree p)) old
  unfolding plan_of
  trim_keeps =
      let r = trim_part p g old is in
      let valid = good_valid p g in
      record {
        states = kept_states;
        order = λ i j h l. rw (is i (omega arith), is j l) (map_rises p i j h (omega (arith, trim_long p)));
        inside = r.inside;
        start = ((trim_good p g).inside, kept_start);
        kinds = r.kinds;
        commands = r.counts;
        outcomes = λ i c l k. part_outcomes r i l c k;
        practices = r.practices;
        verdicts = part_lost r valid;
        ranks = part_rank r valid;
        choices = part_chosen r valid;
      }
