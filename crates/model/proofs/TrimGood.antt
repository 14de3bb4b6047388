-- The trimmed tree of a plan that a file gives is a plan that a file gives, with no more states, commands and outcomes.
use mathlib.Core.Path.{◌≡◌, refl, sym, subst}
use mathlib.Core.Bool.{true}
use mathlib.Core.List.{List, [], ◌∷◌, map, Memᴰ}
use Prim.Native.Nat.{ℕ, ◌+◌, ◌<◌, ◌≤◌}
use native.Mathlib.Nat.{le_of_eq}
use native.Mathlib.Numerals.{add-one}
use native.Mathlib.Omega.{arith}
use lib.ListN.{length, get_or, length-map, length-append, get_or-map}
use Rattle.laws.specs.Lists.{joined}
use Rattle.laws.proofs.All.{all_of}
use Rattle.laws.proofs.Counts.{many_yes, many_upto}
use Rattle.laws.proofs.Joins.{length_joined}
use Rattle.laws.proofs.PassingSums.{passing_sum}
use Rattle.model.specs.Refusal.{given}
use Rattle.model.specs.File.{Tree, rising}
use Rattle.model.specs.Tables.{Size, all_commands, tables_of}
use Rattle.model.specs.Held.{state_of}
use Rattle.model.specs.Trim.{map_of, new_number, trim_state, trim_tree, trimmed}
use Rattle.model.proofs.Good.{GoodCommand, GoodState, Good, good_state, good_command}
use Rattle.model.proofs.Risings.{rising_cons}
use Rattle.model.proofs.TrimmedPlan.{
  kept,
  old_number,
  same_commands,
  same_outcomes,
  trim_few,
  trim_state_lem,
  old_kept,
  new_inside,
  start_kept,
  kept_inside,
  outcome_kept,
}

-- no more states, commands and outcomes
abbrev pub NoLarger : Size → Size → Type 0
NoLarger y z = (y.n ≤ z.n) × (y.m ≤ z.m) × (y.t ≤ z.t)

module _ (p : Tree) where
  -- there are no more commands and outcomes than before
  trim_few_commands : length (all_commands (trim_tree p).states) ≤ length (all_commands p.states)
  unfolding trim_tree map_of trim_state state_of all_commands
  trim_few_commands =
      passing_sum (λ s. length s.commands) (λ ss. length (all_commands ss)) refl (λ s ss. length-append s.commands (all_commands ss))
      (kept p) (λ s. trim_state (new_number p) (state_of p s)) p.states _
      (λ i. le_of_eq (same_commands (new_number p) (state_of p i)))

  trim_few_outcomes : length (joined (all_commands (trim_tree p).states)) ≤ length (joined (all_commands p.states))
  unfolding trim_tree map_of trim_state state_of all_commands joined
  trim_few_outcomes =
      passing_sum (λ s. length (joined s.commands)) (λ ss. length (joined (all_commands ss))) refl
      (λ s ss. length_joined s.commands (all_commands ss))
      (kept p) (λ s. trim_state (new_number p) (state_of p s)) p.states _
      (λ i. le_of_eq (same_outcomes (new_number p) (state_of p i)))

  pub trim_no_larger : NoLarger (trimmed p).size (tables_of p).size
  unfolding tables_of
  trim_no_larger = (trim_few p, trim_few_commands, trim_few_outcomes)

  -- kept outcomes that rise do so under their new numbers
  trim_rising : (low new : ℕ) (os : List ℕ) → new ≤ new_number p low → ((o : ℕ) → Memᴰ o os → kept p o ≡ true)
      → rising (length p.states) low os ≡ given tt → rising (length (trim_tree p).states) new (map (new_number p) os) ≡ given tt
  unfolding rising new_number
  trim_rising low new [] h k e = refl
  trim_rising low new (o ∷ os) h k e =
      let (below, (least, more-rise)) = (rising_cons (length p.states) low o os).0 e in
      let yes_o = k o (Memᴰ.head refl) in
      (rising_cons (length (trim_tree p).states) new (new_number p o) (map (new_number p) os)).1 (
        new_inside p o below yes_o,
        (
          omega (arith, many_upto (kept p) low o least),
          trim_rising (o + 1) (new_number p o + 1) os (rw (add-one o) (omega (arith, many_yes (kept p) o yes_o)))
              (λ x m. k x (Memᴰ.tail m)) more-rise,
        ),
      )

  module _ (g : Good p) where
    trim_good_command : (s c : ℕ) → kept p s ≡ true → c < length (state_of p s).commands
        → GoodCommand (length (trim_tree p).states) (map (new_number p) (get_or (state_of p s).commands c []))
    trim_good_command s c e l =
        let os = get_or (state_of p s).commands c [] in
        let good = good_command p g s c (kept_inside p g s e) l in
        record {
          some = omega (arith, length-map os (new_number p), good.some);
          rise = trim_rising 0 0 os (omega arith) (λ o m. (outcome_kept p g s c o e l m).1) good.rise;
        }

    trim_good_state : (s : ℕ) → kept p s ≡ true → GoodState (length (trim_tree p).states) (trim_state (new_number p) (state_of p s))
    unfolding trim_state
    trim_good_state s e =
        let cs = (state_of p s).commands in
        let good = good_state p g s (kept_inside p g s e) in
        let count = same_commands (new_number p) (state_of p s) in
        record {
          low = good.low;
          works = rw count good.works;
          good = all_of (map (map (new_number p)) cs) [] (λ c l.
              rw (get_or-map (map (new_number p)) cs c []) (trim_good_command s c e (omega (arith, count))));
        }

    trim_start : (trim_tree p).start < length (trim_tree p).states
    unfolding trim_tree
    trim_start = new_inside p p.start g.inside (start_kept p)

    -- rule X5
    pub trim_good : Good (trim_tree p)
    unfolding state_of
    trim_good = record {
      some = omega (arith, trim_start);
      few = omega (arith, trim_few p, g.few);
      inside = trim_start;
      few_commands = omega (arith, trim_few_commands, g.few_commands);
      few_outcomes = omega (arith, trim_few_outcomes, g.few_outcomes);
      good = all_of (trim_tree p).states _ (λ i l.
          subst (GoodState (length (trim_tree p).states)) (sym (trim_state_lem p i l)) (trim_good_state (old_number p i) (old_kept p i l)));
    }
