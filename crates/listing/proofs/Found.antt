-- What the search from the start of a sound plan answers.
use mathlib.Core.Path.{◌≡◌, refl, ap}
use mathlib.Core.Bool.{Bool, true}
use Prim.Native.Nat.{ℕ, ◌<◌, ◌≤◌}
use native.Mathlib.Omega.{arith}
use Rattle.model.specs.Search.{Result, search}
use Rattle.model.specs.Refusal.{given, answer}
use Rattle.model.specs.Tables.{Tables}
use Rattle.model.specs.Held.{tree_of, plan_in}
use Rattle.model.specs.SoundTest.{sound}
use Rattle.model.specs.Calls.{searching}
use Rattle.model.proofs.Answering.{searching_iff}
use Rattle.model.proofs.GoodTables.{sound_good}
use Rattle.model.proofs.HeldPlan.{states_held}
use Rattle.model.proofs.SoundFacts.{sound_facts}
use Rattle.model.proofs.Valid.{sound_valid, few_states, few_commands}
use Rattle.model.proofs.Widths.{rounds_fit}
use Rattle.search.specs.declared.Found.{Found}

module _ (T : Tables) (e : sound T ≡ true) where
  pub start_small : T.size.start < 1000000
  start_small = omega (arith, ((sound_facts T).0 e).size.few, ((sound_facts T).0 e).size.starts)

  rounds_small : (search (plan_in T) T.size.start).rounds < 65536
  unfolding plan_in
  rounds_small =
      let g = sound_good T e in
      rounds_fit (plan_in T) (sound_valid T e) (omega (arith, few_states (tree_of T) g)) (λ s h. omega (arith, few_commands (tree_of T) g s h))
      T.size.start (rw (states_held T) ((sound_facts T).0 e).size.starts)

  abbrev found : Result
  found = search (plan_in T) T.size.start

  -- the lengths of the tables lent to it
  module _ {C S : ℕ} (long : (1024 ≤ C) × (1024 ≤ S)) where
    searches : searching T T.size.start C S ≡ given found
    searches = (searching_iff T T.size.start C S found).1 (record {
      sounds = e;
      inside = ((sound_facts T).0 e).size.starts;
      long_commands = omega (arith, ((sound_facts T).0 e).size.few, long.0);
      long_scratch = omega (arith, ((sound_facts T).0 e).size.few, long.1);
      is = refl;
    })

    pub finds : answer {B = Bool × ℕ} (λ R. (R.lost, R.rounds)) (searching T T.size.start C S) ≡ given (found.lost, found.rounds)
    unfolding answer
    finds = ap (answer {B = Bool × ℕ} (λ (R : Result). (R.lost, R.rounds))) searches

  pub few_rounds : {f : Found} → ◌≡◌ {A = Bool × ℕ} (f.lost, f.rounds) (found.lost, found.rounds) → f.rounds < 1000000
  few_rounds same = omega (arith, rounds_small, ap (λ (x : Bool × ℕ). x.1) same)
