-- The command taken at a state: laws of hits, forced, try_order and choice.
use mathlib.Core.Path.{◌≡◌, sym, ◌∙◌, ap}
use mathlib.Core.Bool.{Bool, true, false, not, cond, ◌&&◌}
use mathlib.Core.Logic.{⊎_elim}
use mathlib.Core.List.Memᴰ
use mathlib.Core.List.{◌∷◌, Memᴰ}
use mathlib.Core.Option.{none, some}
use Prim.Native.Nat.{ℕ, ◌<◌}
use native.Mathlib.Omega.{arith}
use borrow.Author.Tests.{ltb-true, not-true, not-false}
use Rattle.laws.specs.Sets.{any, every, first, lowest}
use Rattle.laws.specs.Lists.{tabulate}
use Rattle.laws.proofs.Tests.{clash, true_or_false, refute, and_both, and_join}
use Rattle.laws.proofs.Sets.{any_hit, any_of, any_none, every_at, every_of, first_some, first_none, first_same}
use Rattle.laws.proofs.Least.{found_least}
use Rattle.laws.proofs.Lists.{mem_at, at_mem}
use Rattle.laws.proofs.Ranges.{first_lowest}
use Rattle.model.specs.Plan.{Plan, active, has_practice}
use Rattle.model.specs.Verdict.{hit, hits, forced}
use Rattle.model.specs.Command.{try_order, choice}

-- ---- the order of trying

module _ (P : Plan) (s : ℕ) where
  numbered : (c : ℕ) → Memᴰ c (tabulate (λ d. d) 0 (P.commands s)) → c < P.commands s
  numbered c m = let (i, l, q) = at_mem (λ d. d) (P.commands s) m in omega arith

  -- every number tried is a command
  pub tried_command : (c : ℕ) → Memᴰ c (try_order P s) → c < P.commands s
  unfolding try_order has_practice
  tried_command c m = ⊎_elim with_practice (λ e. numbered c (rw e at m)) (true_or_false (has_practice P s))
    where
      with_practice : has_practice P s ≡ true → c < P.commands s
      with_practice e =
          ⊎_elim (λ q. rw q (ltb-true (P.practice s) (P.commands s) e)) (numbered c) (Memᴰ.cases_cons (rw e at m))

  -- every command is tried
  pub command_tried : (c : ℕ) → c < P.commands s → Memᴰ c (try_order P s)
  unfolding try_order
  command_tried c l = ⊎_elim (λ e. rw e (Memᴰ.tail all)) (λ e. rw e all) (true_or_false (has_practice P s))
    where
      all : Memᴰ c (tabulate (λ d. d) 0 (P.commands s))
      all = mem_at (λ d. d) (P.commands s) c l

-- ---- outcomes in a set

module _ (P : Plan) (K : ℕ → Bool) (s : ℕ) where
  -- it has one if some of its outcomes is in the set
  pub hits_any : (c : ℕ) → hits P K s c ≡ any K (P.outcomes s c)
  unfolding hit hits
  hits_any c = found_least K (P.outcomes s c)

  pub hits_is : (c : ℕ) → hits P K s c ≡ true → (x : ℕ) × Memᴰ x (P.outcomes s c) × (K x ≡ true)
  hits_is c e = any_hit K (P.outcomes s c) (sym (hits_any c) ∙ e)

  pub hits_of : (c x : ℕ) → Memᴰ x (P.outcomes s c) → K x ≡ true → hits P K s c ≡ true
  hits_of c x m e = hits_any c ∙ any_of K (P.outcomes s c) m e

  pub misses : (c x : ℕ) → hits P K s c ≡ false → Memᴰ x (P.outcomes s c) → K x ≡ false
  misses c x e m = any_none K (P.outcomes s c) (sym (hits_any c) ∙ e) m

  pub forced_is : forced P K s ≡ true → (active P s ≡ true) × ((c : ℕ) → c < P.commands s → hits P K s c ≡ true)
  unfolding forced
  forced_is e =
      let b = and_both (active P s) (every (hits P K s) (P.commands s)) e in
      (b.0, every_at (hits P K s) (P.commands s) b.1)

  pub forced_of : active P s ≡ true → ((c : ℕ) → c < P.commands s → hits P K s c ≡ true) → forced P K s ≡ true
  unfolding forced
  forced_of a h = and_join (active P s) (every (hits P K s) (P.commands s)) a (every_of (hits P K s) (P.commands s) h)

  -- ---- the choice

  -- the command stays out of K
  unfoldable pub keeps : ℕ → Bool
  keeps c = not (hits P K s c)

  pub choice_idle : active P s ≡ false → choice P K s ≡ none
  unfolding choice
  choice_idle e = rw e

  choice_first : active P s ≡ true → choice P K s ≡ first keeps (try_order P s)
  unfolding choice keeps
  choice_first e = rw e

  pub choice_some : (c : ℕ) → choice P K s ≡ some c → (active P s ≡ true) × (c < P.commands s) × (hits P K s c ≡ false)
  unfolding keeps
  choice_some c e = ⊎_elim taken (λ i. idle (sym (choice_idle i) ∙ e)) (true_or_false (active P s))
    where
      idle : none ≡ some c → (active P s ≡ true) × (c < P.commands s) × (hits P K s c ≡ false)
      idle q = (cc, let z : ◌≡◌ {A = ℕ} 0 1 = cc in omega arith, cc)

      taken : active P s ≡ true → (active P s ≡ true) × (c < P.commands s) × (hits P K s c ≡ false)
      taken a =
          let (m, k) = first_some keeps (try_order P s) c (sym (choice_first a) ∙ e) in
          (a, tried_command P s c m, not-true (hits P K s c) k)

  pub choice_none : active P s ≡ true → choice P K s ≡ none → (c : ℕ) → c < P.commands s → hits P K s c ≡ true
  unfolding keeps
  choice_none a e c l =
      not-false (hits P K s c) (first_none keeps (try_order P s) (sym (choice_first a) ∙ e) c (command_tried P s c l))

  -- the first tried that keeps out of K, by whether there is a practice to try
  order_words : (b : Bool) (p n : ℕ)
      → first keeps (cond b (p ∷ tabulate (λ c. c) 0 n) (tabulate (λ c. c) 0 n)) ≡ cond (b && keeps p) (some p) (lowest keeps n)
  unfolding first
  order_words true p n = rw (first_lowest keeps n)
  order_words false p n = first_lowest keeps n

  -- rules V6 and S4: the practice if it has no outcome in K, and otherwise the smallest number of a command that has none
  pub choice_words : active P s ≡ true
      → choice P K s
      ≡ cond (has_practice P s && not (hits P K s (P.practice s))) (some (P.practice s)) (lowest (λ c. not (hits P K s c)) (P.commands s))
  unfolding keeps try_order
  choice_words a = choice_first a ∙ order_words (has_practice P s) (P.practice s) (P.commands s)

-- A larger set L that the command taken under K stays out of: the same command is taken.
module _ (P : Plan) (K L : ℕ → Bool) (s : ℕ)
    (more : (c : ℕ) → c < P.commands s → hits P K s c ≡ true → hits P L s c ≡ true)
    (out : (c : ℕ) → choice P K s ≡ some c → hits P L s c ≡ false) where
  pub choice_same : choice P K s ≡ choice P L s
  unfolding keeps
  choice_same =
      ⊎_elim taken (λ e. choice_idle P K s e ∙ sym (choice_idle P L s e)) (true_or_false (active P s))
    where
      narrow : (c : ℕ) → Memᴰ c (try_order P s) → keeps P L s c ≡ true → keeps P K s c ≡ true
      narrow c m e =
          ap not (refute (hits P K s c) (λ t. clash (more c (tried_command P s c m) t) (not-true (hits P L s c) e)))

      taken : active P s ≡ true → choice P K s ≡ choice P L s
      taken a =
          let q = choice_first P K s a in
          let same = first_same (keeps P K s) (keeps P L s) (try_order P s) narrow (λ c e. ap not (out c (q ∙ e))) in
          q ∙ same ∙ sym (choice_first P L s a)
