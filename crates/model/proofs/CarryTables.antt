-- What it means that carrying back is answered, of the table that it leaves; and of what trimming and deciding leave.
use mathlib.Core.Path.{◌≡◌, refl, sym, ap, ◌∙◌}
use mathlib.Core.Bool.{true}
use mathlib.Core.List.{List}
use mathlib.Core.Logic.{◌↔◌}
use mathlib.Core.Option.{none, some}
use Prim.Native.Nat.{ℕ, suc, ◌<◌, ◌≤◌}
use native.Mathlib.Omega.{arith}
use lib.Dec.{eqb}
use lib.ListN.{length, get_or, take, length-map}
use lib.Seq.{ext_get_or, length-take-le, get_or-take}
use borrow.Author.Tests.{eq-eqb, ne_eqb}
use Rattle.laws.specs.Lists.{overwrite}
use Rattle.laws.specs.Entry.{FFFF, entry}
use Rattle.laws.proofs.Sets.{lowest_eq}
use Rattle.laws.proofs.EntryFound.{from_same}
use Rattle.laws.proofs.Lists.{agree_get_or, get_or_taken}
use Rattle.laws.proofs.Maps.{get_or_map}
use Rattle.laws.proofs.Overwrites.{overwrite_length}
use Rattle.model.specs.Command.{chosen}
use Rattle.model.specs.Practice.{tally}
use Rattle.model.specs.Refusal.{given, answer}
use Rattle.model.specs.Tables.{Size, Row, Tables}
use Rattle.model.specs.SoundTest.{sound}
use Rattle.model.specs.Held.{plan_in}
use Rattle.model.specs.Calls.{left, command_table, decide_call}
use Rattle.model.specs.Demand3.{read_entry}
use Rattle.model.specs.Trim.{trim_call, after_trimming}
use Rattle.model.specs.Trimmed.{Enters, Trimmed}
use Rattle.model.specs.Carry.{new_in, entry_at, carried, picked, CarryUnsound, carry_call}
use Rattle.model.specs.Carried.{KeptOf, Carried}
use Rattle.model.proofs.Answers.{answer_inv}
use Rattle.model.proofs.Answering.{deciding_iff}
use Rattle.model.proofs.HeldPlan.{states_held}
use Rattle.model.proofs.SoundFacts.{sound_facts}
use Rattle.model.proofs.Delivered.{entry_written}
use Rattle.model.proofs.TrimLeaves.{trims}
use Rattle.model.proofs.TrimTables.{trimmed_tables}
use Rattle.model.proofs.CarryCalls.{CarrySound, carry_sound_iff, map_rise, sound_not, carrying_iff}

-- where the map has an old number, and where it has none
module _ {n : ℕ} {olds : List ℕ} {entries : ℕ} (f : CarrySound n olds entries) where
  pub new_at : (i : ℕ) → i < length olds → new_in olds (get_or olds i 0) ≡ some i
  unfolding new_in
  new_at i l =
      lowest_eq (λ j. eqb (get_or olds j 0) (get_or olds i 0)) (length olds) (some i) (
        l,
        eq-eqb (get_or olds i 0) (get_or olds i 0) refl,
        λ j k. ne_eqb (get_or olds j 0) (get_or olds i 0) (λ e. omega (arith, map_rise n olds entries f j i k l)),
      )

pub new_none : (olds : List ℕ) (s : ℕ) → ((i : ℕ) → i < length olds → get_or olds i 0 ≡ s → ⊥) → new_in olds s ≡ none
unfolding new_in
new_none olds s h = lowest_eq (λ i. eqb (get_or olds i 0) s) (length olds) none (λ i l. ne_eqb (get_or olds i 0) s (h i l))

-- ---- what is left

module _ (n : ℕ) (olds table places : List ℕ) (f : CarrySound n olds (length table)) where
  -- the lent table, n places of which are written
  abbrev back : List ℕ
  back = overwrite (carried n olds table) places

  back_at : (s default : ℕ) → s < n → get_or back s default ≡ entry_at table (new_in olds s)
  unfolding carried
  back_at s default l = entry_written (λ x. entry_at table (new_in olds x)) n places s default l

  back_kept : (i : ℕ) → i < length olds → get_or back (get_or olds i 0) FFFF ≡ get_or table i FFFF
  unfolding entry_at
  back_kept i l = back_at (get_or olds i 0) FFFF (f.below i l) ∙ ap (entry_at table) (new_at f i l)

  back_others : (s : ℕ) → s < n → ((i : ℕ) → i < length olds → get_or olds i 0 ≡ s → ⊥) → get_or back s 0 ≡ FFFF
  unfolding entry_at
  back_others s l h = back_at s 0 l ∙ ap (entry_at table) (new_none olds s h)

  back_picks : picked olds back ≡ take (length olds) table
  unfolding picked
  back_picks =
      let pick : ℕ → ℕ = λ s. get_or back s FFFF in
      ext_get_or FFFF _ _ (length-map olds pick ∙ sym (length-take-le (length olds) table f.long)) (λ i k.
      let l : i < length olds = omega (arith, length-map olds pick) in
      get_or_map pick olds i 0 FFFF l ∙ back_kept i l ∙ sym (get_or-take (length olds) table i FFFF l))

  -- beside a trimmed plan and its map
  module _ (T U : Tables) (map : List ℕ) (t : Trimmed T U map) (n_is : T.size.n ≡ n) (map_is : take U.size.n map ≡ olds) where
    map_long : length olds ≡ U.size.n
    map_long = sym (ap length map_is) ∙ length-take-le U.size.n map t.map_long

    -- a state is kept if the map has it
    in_map : (s : ℕ) → Enters (plan_in T) s ↔ ((i : ℕ) × (i < length olds) × (get_or olds i 0 ≡ s))
    in_map s =
        let (there, back) = t.keeps.states s in (
          λ e.
              let (i, l, q) = there e in
              let k : i < U.size.n = omega (arith, states_held U) in
              (i, omega (arith, map_long), sym (get_or_taken U.size.n map olds i 0 map_is k) ∙ q),
          λ (i, l, q).
              let k : i < U.size.n = omega (arith, map_long) in
              back (i, omega (arith, states_held U), get_or_taken U.size.n map olds i 0 map_is k ∙ q),
        )

    module _ (ranks commands marks scratch ranks' commands' marks' scratch' : List ℕ) (counts counts' : List (List ℕ))
        (d : (decide_call T ranks commands marks scratch).answers ≡ given counts)
        (e : (decide_call U ranks' commands' marks' scratch').answers ≡ given counts')
        (same : take U.size.n table ≡ take U.size.n (decide_call U ranks' commands' marks' scratch').commands) where
      kept_decided : (i : ℕ) → i < length olds
          → get_or back (get_or olds i 0) FFFF ≡ get_or (decide_call T ranks commands marks scratch).commands (get_or olds i 0) FFFF
      unfolding read_entry
      kept_decided i l =
          let k : i < U.size.n = omega (arith, map_long) in
          let (_, choice) = t.by_tables ranks commands marks scratch ranks' commands' marks' scratch' counts counts' d e i k in
          back_kept i l ∙ agree_get_or _ _ table _ refl same i FFFF k ∙ from_same choice
          ∙ ap (λ (s : ℕ). get_or (decide_call T ranks commands marks scratch).commands s FFFF) (get_or_taken U.size.n map olds i 0 map_is k)

      back_decided : KeptOf T (decide_call T ranks commands marks scratch).commands back
      back_decided = record {
        kept = λ s l enters. let (i, k, q) = (in_map s).0 enters in rw (← q) (kept_decided i k);
        others = λ s l apart. back_others s (rw (← n_is) l) (λ i k q. apart ((in_map s).1 (i, k, q)));
      }

  pub carried_sound : Carried n olds table back
  carried_sound = record { kept = back_kept; others = back_others; picks = back_picks; decided = back_decided }

-- of the call, where it answers
pub carried_back : (n : ℕ) (olds table places : List ℕ) → (carry_call n olds table places).answers ≡ given tt
    → Carried n olds table (carry_call n olds table places).places
unfolding left
carried_back n olds table places e =
    let (xs, answered, _) = answer_inv (λ (_ : List ℕ). tt) _ tt e in
    let (t, _, is) = (carrying_iff n olds table (length places) xs).0 answered in
    rw (answered, ← is) (carried_sound n olds table places ((carry_sound_iff n olds (length table)).0 t))

-- ---- beside trimming and deciding

-- the command table that deciding leaves has a place for each state
commands_long : (T : Tables) (ranks commands marks scratch : List ℕ) (counts : List (List ℕ))
    → (decide_call T ranks commands marks scratch).answers ≡ given counts
    → T.size.n ≤ length (decide_call T ranks commands marks scratch).commands
unfolding left command_table
commands_long T ranks commands marks scratch counts e =
    let (P, answers, _) = answer_inv tally _ counts e in
    let w = (deciding_iff T (length ranks) (length commands) (length marks) (length scratch) P).0 answers in
    let long : (plan_in T).states ≤ length commands = omega (arith, w.long_commands, states_held T) in
    rw (answers, ← w.is)
    (omega (arith, w.long_commands, overwrite_length (λ s. entry (chosen (plan_in T) s)) (plan_in T).states commands long))

-- a map that trimming left carry_sound, with the old n and any table that has an entry for each of its states
module _ (T U : Tables) (map : List ℕ) (t : Trimmed T U map) (sounds : sound T ≡ true) where
  map_sound : (table : List ℕ) → U.size.n ≤ length table → CarrySound T.size.n (take U.size.n map) (length table)
  map_sound table h =
      let k = t.keeps in
      let long : length (take U.size.n map) ≡ U.size.n = length-take-le U.size.n map t.map_long in
      let size = ((sound_facts T).0 sounds).size in
      record {
        some = size.some;
        few = size.few;
        next = λ i l.
            rw (get_or-take U.size.n map i 0 (omega arith), get_or-take U.size.n map (suc i) 0 (omega arith))
            (k.order i (suc i) (omega arith) (omega (arith, states_held U)));
        below = λ i l.
            rw (get_or-take U.size.n map i 0 (omega arith)) (omega (arith, k.inside i (omega (arith, states_held U)), states_held T));
        long = omega (arith, long, h);
      }

module _ (T : Tables) (rows : List Row) (firsts outcomes olds scratch : List ℕ) (z : Size)
    (answered : (trim_call T rows firsts outcomes olds scratch).answers ≡ given z) where
  abbrev X : List ℕ
  X = take z.n (trim_call T rows firsts outcomes olds scratch).olds

  abbrev U : Tables
  U = after_trimming z T rows firsts outcomes olds scratch

  trimmed_is : Trimmed T U (trim_call T rows firsts outcomes olds scratch).olds
  trimmed_is = trimmed_tables T rows firsts outcomes olds scratch z answered

  left_sound : (table : List ℕ) → z.n ≤ length table → CarrySound T.size.n X (length table)
  left_sound = map_sound T U _ trimmed_is (trims T rows firsts outcomes olds scratch z answered).sounds

  pub map_fits : (table : List ℕ) → z.n ≤ length table → CarryUnsound T.size.n X (length table) → ⊥
  map_fits table h = sound_not T.size.n X (length table) ((carry_sound_iff T.size.n X (length table)).1 (left_sound table h))

  pub map_accepted : (table places : List ℕ) → z.n ≤ length table → T.size.n ≤ length places
      → (carry_call T.size.n X table places).answers ≡ given tt
  unfolding answer
  map_accepted table places h l =
      rw ((carrying_iff T.size.n X table (length places) (carried T.size.n X table)).1 ((carry_sound_iff T.size.n X (length table)).1 (left_sound table h), l, refl))

  -- deciding's commands for the trimmed plan, carried back
  module _ (ranks commands marks scratch₀ ranks' commands' marks' scratch' : List ℕ) (counts counts' : List (List ℕ))
      (d : (decide_call T ranks commands marks scratch₀).answers ≡ given counts)
      (e : (decide_call U ranks' commands' marks' scratch').answers ≡ given counts')
      (places : List ℕ) (room : T.size.n ≤ length places) where
    abbrev decided : List ℕ
    decided = (decide_call U ranks' commands' marks' scratch').commands

    pub decided_back : let C = carry_call T.size.n X decided places in
        (C.answers ≡ given tt) × KeptOf T (decide_call T ranks commands marks scratch₀).commands C.places
    decided_back =
        let accepted = map_accepted decided places (commands_long U ranks' commands' marks' scratch' counts' e) room in (
          accepted,
          (carried_back T.size.n X decided places accepted).decided T U _ trimmed_is refl refl
              ranks commands marks scratch₀ ranks' commands' marks' scratch' counts counts' d e refl,
        )
