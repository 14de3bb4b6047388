-- Good trees: what holds of every tree that a file gives. What is written of one is bytes.
use mathlib.Core.Path.{◌≡◌}
use mathlib.Core.Bool.{true, ◌||◌}
use mathlib.Core.Logic.{inl, inr}
use mathlib.Core.List.{List, [], ◌∷◌}
use Prim.Native.Nat.{ℕ, ◌+◌, ◌*◌, ◌<◌, ◌≤◌}
use native.Mathlib.Omega.{arith}
use lib.Dec.{eqb, ltb}
use lib.ListN.{length, get_or, length-append}
use borrow.Author.Tests.{ltb-true, eqb-true}
use Rattle.laws.specs.Entry.{FFFF, Bytes}
use Rattle.laws.specs.Lists.{joined}
use Rattle.laws.proofs.Tests.{and_both, or_cases}
use Rattle.laws.proofs.All.{All, none, more, all_at, all_append}
use Rattle.laws.proofs.Joins.{length_joined}
use Rattle.laws.proofs.Entry.{bytes_nil, bytes_cons, bytes_two, bytes_twos}
use Rattle.model.specs.Refusal.{given}
use Rattle.model.specs.File.{max_states, max_commands, max_outcomes, State, StateField, state_from, field_of, Tree, not_idle, rising, read}
use Rattle.model.specs.Bytes.{commands_bytes, states_bytes, bytes_of}
use Rattle.model.specs.Tables.{all_commands}
use Rattle.model.specs.Held.{state_of}
use Rattle.model.proofs.Answers.{need_inv}
use Rattle.model.proofs.Readings.{
  CommandsRead,
  StatesRead,
  none,
  more,
  read_inv,
  commands_count,
  states_count,
  few_commands,
  few_outcomes,
}

-- a list of at least so many states, which rise
pub record GoodList (least n : ℕ) (c : List ℕ) : Type 0 where
  pub some : least ≤ length c
  pub rise : rising n 0 c ≡ given tt

abbrev pub GoodCommand : ℕ → List ℕ → Type 0
GoodCommand = GoodList 1

pub record GoodState (n : ℕ) (s : State) : Type 0 where
  pub low : s.kind ≤ 2
  pub works : not_idle (field_of s) ≡ true
  pub good : All (GoodCommand n) s.commands

pub record Good (p : Tree) : Type 0 where
  pub some : 1 ≤ length p.states
  pub few : length p.states ≤ max_states
  pub inside : p.start < length p.states
  pub few_commands : length (all_commands p.states) ≤ max_commands
  pub few_outcomes : length (joined (all_commands p.states)) ≤ max_outcomes
  pub good : All (GoodState (length p.states)) p.states

-- states and commands by their numbers
module _ (p : Tree) (g : Good p) where
  pub good_state : (s : ℕ) → s < length p.states → GoodState (length p.states) (state_of p s)
  unfolding state_of
  good_state s h = all_at g.good _ s h

  pub good_command : (s c : ℕ) → s < length p.states → c < length (state_of p s).commands
      → GoodCommand (length p.states) (get_or (state_of p s).commands c [])
  good_command s c h l = all_at (good_state s h).good [] c l

-- the commands of all states
pub good_commands : {n : ℕ} {ss : List State} → All (GoodState n) ss → All (GoodCommand n) (all_commands ss)
unfolding all_commands
good_commands none = none
good_commands (more g gs) = all_append g.good (good_commands gs)

-- outcomes are states
pub rising_below : (n low : ℕ) (os : List ℕ) → rising n low os ≡ given tt → All (λ o. o < n) os
unfolding rising
rising_below n low [] e = none
rising_below n low (o ∷ os) e =
    let (below, e₁) = need_inv _ _ _ e in
    let (_, e₂) = need_inv _ _ _ e₁ in
    more (ltb-true _ _ below) (rising_below n (o + 1) os e₂)

commands_good : {n k t t₁ : ℕ} {s s₁ : List ℕ} {cs : List (List ℕ)} → CommandsRead n k t s cs t₁ s₁ → All (GoodCommand n) cs
commands_good none = none
commands_good (more c r) = more (record { some = c.some; rise = c.rise }) (commands_good r)

states_good : {n k m t : ℕ} {s s₁ : List ℕ} {ss : List State} → StatesRead n k m t s ss s₁ → All (GoodState n) ss
states_good none = none
states_good {n} (more {q} {cs} g c r) =
    let good : GoodState n (state_from q cs) = record { low = g.low; works = rw (commands_count c) g.works; good = commands_good c } in
    more good (states_good r)

pub read_good : (s : List ℕ) (p : Tree) → read s ≡ given p → Good p
read_good s p e =
    let r = read_inv s p e in
    let h = r.headed in
    let c : length p.states ≡ r.n = states_count r.stated in
    record {
      some = omega arith;
      few = omega arith;
      inside = omega arith;
      few_commands = omega (arith, few_commands r.stated (omega arith));
      few_outcomes = omega (arith, few_outcomes r.stated (omega arith));
      good = rw c (states_good r.stated);
    }

bytes_commands : {n : ℕ} {cs : List (List ℕ)} {r : List ℕ} → n ≤ max_states → All (GoodCommand n) cs → length (joined cs) ≤ max_outcomes
    → Bytes r → Bytes (commands_bytes cs r)
unfolding commands_bytes joined
bytes_commands h none l b = b
bytes_commands {n} h (more {x = c} {xs = cs} g gs) l b =
    let e = length-append c (joined cs) in
    bytes_cons (omega arith) (bytes_two (length c * 2) (omega arith)
    (bytes_twos (omega arith) (rising_below n 0 c g.rise) (bytes_commands h gs (omega arith) b)))

-- a practice fits two bytes
pub practice_fits : (q : StateField) → q.count ≤ max_commands → not_idle q ≡ true → q.practice < 65536
practice_fits q h e =
    elim (or_cases (eqb q.practice FFFF) (ltb q.practice q.count) (and_both (eqb q.kind 0 || eqb q.count 0) _ e).1)
    [ inl a ↦ omega (arith, eqb-true q.practice FFFF a) | inr a ↦ omega (arith, ltb-true q.practice q.count a) ]

bytes_states : {n : ℕ} {ss : List State} {r : List ℕ} → n ≤ max_states → All (GoodState n) ss
    → length (all_commands ss) ≤ max_commands → length (joined (all_commands ss)) ≤ max_outcomes → Bytes r → Bytes (states_bytes ss r)
unfolding states_bytes all_commands
bytes_states h none l k b = b
bytes_states h (more {x = s} {xs = ss} g gs) l k b =
    let d = length-append s.commands (all_commands ss) in
    let e = length_joined s.commands (all_commands ss) in
    bytes_cons (omega arith) (bytes_two 5 (omega arith) (bytes_cons (omega arith)
    (bytes_two (length s.commands) (omega arith) (bytes_two s.practice (practice_fits (field_of s) (omega arith) g.works)
    (bytes_commands h g.good (omega arith) (bytes_states h gs (omega arith) (omega arith) b))))))

pub bytes_good : (p : Tree) → Good p → Bytes (bytes_of p)
unfolding bytes_of
bytes_good p g =
    bytes_cons (omega arith) (bytes_two 4 (omega arith) (bytes_two (length p.states) (omega arith) (bytes_two p.start (omega arith)
    (bytes_states g.few g.good g.few_commands g.few_outcomes
    (bytes_cons (omega arith) (bytes_two 0 (omega arith) bytes_nil))))))
