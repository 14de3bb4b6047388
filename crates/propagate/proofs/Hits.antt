-- Commands that have an outcome in a set, and states that lose by it.
use mathlib.Core.Path.{◌≡◌, sym, ◌∙◌, subst}
use mathlib.Core.Bool.{Bool, true}
use mathlib.Core.List.{Memᴰ}
use Prim.Native.Nat.{ℕ, ◌+◌, ◌-◌, ◌≤◌, ◌<◌}
use native.Mathlib.Omega.{arith}
use borrow.Author.Tests.{lt-ltb, ltb-true}
use lib.Dec.{ltb}
use Rattle.laws.proofs.Tests.{same_test, and_both, and_join}
use Rattle.laws.proofs.Sets.{any_hit, any_of, every_at, every_of, Part}
use Rattle.laws.proofs.Grow.{Monotone}
use Rattle.model.specs.Tables.{Lists}
use Rattle.model.specs.Places.{list_at}
use Rattle.tables.specs.Ready.{Ready}
use Rattle.index.proofs.Groups.{entry_in}
use Rattle.choice.specs.Within.{command_hits}
use Rattle.choice.proofs.Outcomes.{command_hits_any}
use Rattle.propagate.specs.Net.{Net, from, to, losing, Ranges}

module _ (C : Lists) where
  pub hit_some : (K : ℕ → Bool) (c : ℕ) → command_hits C K c ≡ true → (o : ℕ) × Memᴰ o (list_at C c) × (K o ≡ true)
  hit_some K c t = any_hit K (list_at C c) (sym (command_hits_any C K c) ∙ t)

  pub hit_of : (K : ℕ → Bool) (c o : ℕ) → Memᴰ o (list_at C c) → K o ≡ true → command_hits C K c ≡ true
  hit_of K c o m t = command_hits_any C K c ∙ any_of K (list_at C c) m t

  module _ {n : ℕ} (R : Ready n C) where
    -- a larger set is hit by no fewer commands
    pub hit_more : (A B : ℕ → Bool) → Part (n) A B → (c : ℕ) → c < C.count → command_hits C A c ≡ true → command_hits C B c ≡ true
    hit_more A B h c l t = let (o, m, e) = hit_some A c t in hit_of B c o m (h o (entry_in C R c o l m) e)

    pub hit_same : (A B : ℕ → Bool) → ((o : ℕ) → o < n → A o ≡ B o) → (c : ℕ) → c < C.count → command_hits C A c ≡ command_hits C B c
    hit_same A B h c l =
        same_test (command_hits C A c) (command_hits C B c)
        (hit_more A B (λ o g t. sym (h o g) ∙ t) c l) (hit_more B A (λ o g t. h o g ∙ t) c l)

module _ (N : Net) (K : ℕ → Bool) (s : ℕ) where
  pub lose_some : losing N K s ≡ true → from N s < to N s
  unfolding losing
  lose_some t = ltb-true (from N s) (to N s) (and_both (ltb (from N s) (to N s)) _ t).0

  pub lose_at : losing N K s ≡ true → (c : ℕ) → from N s ≤ c → c < to N s → command_hits N.commands K c ≡ true
  unfolding losing
  lose_at t c p q =
      let e : from N s + (c - from N s) ≡ c = omega arith in
      subst (λ (d : ℕ). command_hits N.commands K d ≡ true) e
      (every_at (λ i. command_hits N.commands K (from N s + i)) (to N s - from N s) (and_both (ltb (from N s) (to N s)) _ t).1
      (c - from N s) (omega arith))

  pub lose_of : from N s < to N s → ((c : ℕ) → from N s ≤ c → c < to N s → command_hits N.commands K c ≡ true) → losing N K s ≡ true
  unfolding losing
  lose_of l h =
      and_join (ltb (from N s) (to N s)) _ (lt-ltb (from N s) (to N s) l)
      (every_of (λ i. command_hits N.commands K (from N s + i)) (to N s - from N s) (λ i g. h (from N s + i) (omega arith) (omega arith)))

pub to_in : (N : Net) → Ranges N.states N.commands.count N.tos → (s : ℕ) → s < N.states → to N s ≤ N.commands.count
unfolding to
to_in N R s h = R.inside s h

pub lose_mono : (N : Net) → Ready N.states N.commands → Ranges N.states N.commands.count N.tos
    → Monotone N.states (losing N)
lose_mono N R G A B h s l t =
    lose_of N B s (lose_some N A s t) (λ c p q. hit_more N.commands R A B h c (omega (arith, to_in N G s l)) (lose_at N A s t c p q))
