-- The choice at a state of a sound plan, by what is read of the state: the command at the first place of the trying order that is clear.
use mathlib.Core.Path.{◌≡◌, refl, sym, ap, ◌∙◌}
use mathlib.Core.Bool.{Bool, true, false, not}
use mathlib.Core.List.{List, [], ◌∷◌}
use mathlib.Core.Logic.{⊎_elim}
use Prim.Native.Nat.{ℕ, zero, suc, ◌+◌, ◌<◌}
use native.Mathlib.Numerals.{add-one}
use native.Mathlib.Omega.{arith}
use native.Mathlib.Decide.{dec_lt}
use lib.ListN.{length, get_or}
use borrow.Author.Tests.{le-ltb}
use Rattle.std.specs.Prelude.{Option as CodeOption, slice_get}
use Rattle.laws.specs.Sets.{any, least, first, found}
use Rattle.laws.specs.Lists.{tabulate}
use Rattle.laws.specs.Entry.{FFFF}
use Rattle.laws.specs.First.{FirstNot}
use Rattle.laws.proofs.Tests.{clash, true_or_false}
use Rattle.model.specs.Plan.{active, has_practice}
use Rattle.model.specs.Verdict.{hit, hits}
use Rattle.model.specs.Command.{try_order, choice}
use Rattle.model.specs.Tables.{Tables, lists_in}
use Rattle.model.specs.Places.{first_command, command_count, outcomes_at}
use Rattle.model.specs.SoundTest.{sound}
use Rattle.model.specs.Held.{plan_in}
use Rattle.model.proofs.StateKinds.{command_active}
use Rattle.model.proofs.Choices.{hits_any, choice_idle}
use Rattle.model.proofs.HeldPlan.{states_held, practice_held, commands_held, outcomes_held}
use Rattle.model.proofs.Valid.{sound_valid}
use Rattle.tables.specs.declared.spans.Span.{Span}
use Rattle.tables.specs.Spans.{span_at}
use Rattle.choice.specs.Within.{command_hit}
use Rattle.tables.specs.Meaning.{option_of}
use Rattle.choice.specs.Order.{alone, places, tried_at, command_at, hit_at, AllHit}
use Rattle.choice.proofs.Orders.{command_below}

-- the member at the first place of which f does not hold is the first of which it does not
first_got : (f : ℕ → Bool) (l : List ℕ) (r : ℕ) → FirstNot (λ i. f (get_or l i FFFF)) 0 (length l) r
    → option_of (slice_get l r) ≡ first (λ x. not (f x)) l
unfolding first
first_got f [] r v = refl
first_got f (x ∷ xs) zero v = let e : f x ≡ false = v.stops (omega arith) in rw e
first_got f (x ∷ xs) (suc r) v =
    let e : f x ≡ true = v.before 0 (omega arith) (omega arith) in
    rw e (first_got f xs r (record {
      since = omega arith;
      until = omega (arith, v.until);
      before = λ i p q. v.before (suc i) (omega arith) (omega arith);
      stops = λ q. v.stops (omega arith);
    }))

module _ (T : Tables) (K : ℕ → Bool) (s : ℕ) (l : s < T.size.n) where
  -- a command's outcomes, by its place
  pub hit_held : (c : ℕ) → c < command_count T s → hit (plan_in T) K s c ≡ command_hit (lists_in T) K (first_command T s + c)
  unfolding hit command_hit
  hit_held c h = ap (least K) (outcomes_held T s l c h)

  pub hits_held : (c : ℕ) → c < command_count T s → hits (plan_in T) K s c ≡ any K (outcomes_at T (first_command T s + c))
  hits_held c h = hits_any (plan_in T) K s c ∙ ap (any K) (outcomes_held T s l c h)

  module _ (sounds : sound T ≡ true) where
    no_commands_lem : active (plan_in T) s ≡ false → (plan_in T).commands s ≡ 0
    no_commands_lem e = go (dec_lt 0 ((plan_in T).commands s))
      where
        go : Dec (0 < (plan_in T).commands s) → (plan_in T).commands s ≡ 0
        go (yes h) = clash (command_active (plan_in T) s (sound_valid T sounds) (rw (states_held T) l) 0 h) e
        go (no h) = omega arith

    -- a state that is not active has no commands to try
    none_tried : (plan_in T).commands s ≡ 0 → try_order (plan_in T) s ≡ []
    unfolding try_order has_practice tabulate
    none_tried e = rw (e, le-ltb ((plan_in T).practice s) 0 (omega arith))

    choice_first : choice (plan_in T) K s ≡ first (λ c. not (hits (plan_in T) K s c)) (try_order (plan_in T) s)
    unfolding choice first
    choice_first =
        ⊎_elim (λ e. rw e) (λ e. choice_idle (plan_in T) K s e ∙ rw (none_tried (no_commands_lem e))) (true_or_false (active (plan_in T) s))

    choice_at : (r : ℕ) → FirstNot (hit_at (plan_in T) K s) 0 (places (plan_in T) s) r → option_of (tried_at (plan_in T) s r) ≡ choice (plan_in T) K s
    unfolding places tried_at hit_at command_at
    choice_at r v = first_got (hits (plan_in T) K s) (try_order (plan_in T) s) r v ∙ sym choice_first

-- what was read of the state s, as a plan of its own
module _ (T : Tables) (q : Span) (s : ℕ) (l : s < T.size.n) (e : q ≡ span_at T s) where
  order_read : try_order (alone (lists_in T) q) 0 ≡ try_order (plan_in T) s
  unfolding try_order has_practice command_count
  order_read = rw (commands_held T s l, practice_held T s l, e, add-one s)

  places_read : places (alone (lists_in T) q) 0 ≡ places (plan_in T) s
  unfolding places
  places_read = ap length order_read

  tried_read : (i : ℕ) → tried_at (alone (lists_in T) q) 0 i ≡ tried_at (plan_in T) s i
  unfolding tried_at
  tried_read i = rw order_read

  command_read : (i : ℕ) → command_at (alone (lists_in T) q) 0 i ≡ command_at (plan_in T) s i
  unfolding command_at
  command_read i = rw order_read

  module _ (K : ℕ → Bool) where
    hit_read : (i : ℕ) → i < places (plan_in T) s → hit_at (alone (lists_in T) q) K 0 i ≡ hit_at (plan_in T) K s i
    unfolding hit_at hits hit
    hit_read i k =
        let c = command_at (plan_in T) s i in
        let first_is : q.first ≡ first_command T s = ap (λ (p : Span). p.first) e in
        let own = rw (commands_held T s l) at (command_below (plan_in T) s i k) in
        rw (command_read i, first_is) (ap (λ (xs : List ℕ). found (least K xs)) (sym (outcomes_held T s l c own)))

    pub all_alone : {k : ℕ} → AllHit (plan_in T) K s k → AllHit (alone (lists_in T) q) K 0 k
    all_alone v = record {
      part = rw places_read v.part;
      hit = λ i m. hit_read i (omega (arith, v.part)) ∙ v.hit i m;
    }

    pub all_placed : {k : ℕ} → AllHit (alone (lists_in T) q) K 0 k → AllHit (plan_in T) K s k
    all_placed v =
        let p = rw places_read at v.part in
        record { part = p; hit = λ i m. sym (hit_read i (omega (arith, p))) ∙ v.hit i m }

    first_read : {r : ℕ} → FirstNot (hit_at (alone (lists_in T) q) K 0) 0 (places (alone (lists_in T) q) 0) r
        → FirstNot (hit_at (plan_in T) K s) 0 (places (plan_in T) s) r
    first_read v =
        let u = rw places_read at v.until in
        record {
          since = v.since;
          until = u;
          before = λ i p k. sym (hit_read i (omega (arith, u))) ∙ v.before i p k;
          stops = λ k. sym (hit_read _ k) ∙ v.stops (rw places_read k);
        }

    -- the command at the first place that is clear
    pub first_chosen : sound T ≡ true → {r : ℕ} {c : CodeOption ℕ}
        → FirstNot (hit_at (alone (lists_in T) q) K 0) 0 (places (alone (lists_in T) q) 0) r
        → c ≡ tried_at (alone (lists_in T) q) 0 r → option_of c ≡ choice (plan_in T) K s
    first_chosen sounds {r} v z = ap option_of (z ∙ tried_read r) ∙ choice_at T K s l sounds r (first_read v)
