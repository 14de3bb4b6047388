-- The trying order by its places: how many there are, which command stands at each, and what is known of the first ones.
use mathlib.Core.Path.{◌≡◌, refl, sym, ap, subst, ◌∙◌}
use mathlib.Core.Bool.{Bool, true}
use Prim.Native.Nat.{ℕ, zero, suc, ◌+◌, ◌-◌, ◌<◌, ◌≤◌}
use native.Mathlib.Decide.{dec_lt}
use native.Mathlib.Omega.{arith}
use lib.ListN.{get_or}
use borrow.Author.Tests.{le-ltb, lt-ltb}
use Rattle.std.specs.Prelude.{Option, Some, None, IsSome}
use Rattle.std.proofs.lemmas.Option.{slice_get-get_or, slice_get_past, get_or_from_slice_get}
use Rattle.laws.specs.Entry.{FFFF}
use Rattle.laws.specs.First.{FirstNot}
use Rattle.laws.proofs.Lists.{length_tabulate, tabulate_at, mem_get_or}
use Rattle.model.specs.Plan.{Plan, has_practice}
use Rattle.model.specs.Verdict.{hit, hits}
use Rattle.model.specs.Command.{try_order}
use Rattle.model.specs.Tables.{Lists}
use Rattle.model.proofs.Choices.{tried_command, hits_is, hits_of}
use Rattle.tables.specs.declared.spans.Span.{Span}
use Rattle.choice.specs.Within.{command_hit, command_hits}
use Rattle.choice.specs.Order.{alone, places, tried_at, command_at, hit_at, AllHit}

module _ (P : Plan) (s : ℕ) where
  -- what stands in the order is a command
  pub command_below : (i : ℕ) → i < places P s → command_at P s i < P.commands s
  unfolding places command_at
  command_below i l = tried_command P s (get_or (try_order P s) i FFFF) (mem_get_or (try_order P s) i FFFF l)

  pub tried_past : (i : ℕ) → places P s ≤ i → None ≡ tried_at P s i
  unfolding places tried_at
  tried_past i l = sym (slice_get_past (try_order P s) i l)

  pub tried_is : (i c : ℕ) → i < places P s → c ≡ command_at P s i → Some c ≡ tried_at P s i
  unfolding places tried_at command_at
  tried_is i c l e = ap (λ (x : ℕ). Some x) e ∙ sym (slice_get-get_or (try_order P s) i FFFF l)

  pub tried_some : (i : ℕ) → i < places P s → {o : Option ℕ} → o ≡ tried_at P s i → IsSome o
  tried_some i l e = subst IsSome (tried_is i (command_at P s i) l refl ∙ sym e) refl

  -- there is no practice
  module _ (h : P.commands s ≤ P.practice s) where
    pub places_all : P.commands s ≡ places P s
    unfolding places try_order has_practice
    places_all = rw (le-ltb (P.practice s) (P.commands s) h) (sym (length_tabulate (λ c. c) 0 (P.commands s)))

    command_all : (i : ℕ) → i < places P s → i ≡ command_at P s i
    unfolding command_at try_order has_practice
    command_all i l =
        rw (le-ltb (P.practice s) (P.commands s) h) (sym (tabulate_at (λ c. c) (P.commands s) i FFFF (omega (arith, places_all))))

    pub tried_all : (i : ℕ) → i < places P s → Some i ≡ tried_at P s i
    tried_all i l = tried_is i i l (command_all i l)

  -- there is one
  module _ (h : P.practice s < P.commands s) where
    pub places_more : P.commands s + 1 ≡ places P s
    unfolding places try_order has_practice
    places_more =
        rw (lt-ltb (P.practice s) (P.commands s) h) (omega (arith, length_tabulate (λ c. c) 0 (P.commands s)))

    command_first : (i : ℕ) → i ≡ 0 → P.practice s ≡ command_at P s i
    unfolding command_at try_order has_practice
    command_first i e = rw (e, lt-ltb (P.practice s) (P.commands s) h)

    pub tried_first : (i : ℕ) → i ≡ 0 → Some (P.practice s) ≡ tried_at P s i
    tried_first i e = tried_is i (P.practice s) (omega (arith, places_more)) (command_first i e)

    command_then : (i : ℕ) → (i ≡ 0 → ⊥) → i < places P s → i - 1 ≡ command_at P s i
    unfolding command_at try_order has_practice
    command_then zero z l = absurd (z (omega arith))
    command_then (suc i) z l =
        rw (lt-ltb (P.practice s) (P.commands s) h)
        (back ∙ sym (tabulate_at (λ c. c) (P.commands s) i FFFF (omega (arith, places_more))))
      where
        back : suc i - 1 ≡ i
        back = omega arith

    pub tried_then : (i : ℕ) → (i ≡ 0 → ⊥) → i < places P s → Some (i - 1) ≡ tried_at P s i
    tried_then i z l = tried_is i (i - 1) l (command_then i z l)

  pub places_few : places P s ≤ P.commands s + 1
  places_few = go (dec_lt (P.practice s) (P.commands s))
    where
      go : Dec (P.practice s < P.commands s) → places P s ≤ P.commands s + 1
      go (yes h) = omega (arith, places_more h)
      go (no h) = omega (arith, places_all (omega arith))

-- ---- the command at a place, by what was read of the state

module _ (L : Lists) (q : Span) (i c : ℕ) (e : Some c ≡ tried_at (alone L q) 0 i) where
  command_is : c ≡ command_at (alone L q) 0 i
  unfolding tried_at command_at
  command_is = sym (get_or_from_slice_get (try_order (alone L q) 0) i c FFFF (sym e))

  pub tried_inside : q.first ≤ q.end → {end : ℕ} → end ≡ places (alone L q) 0 → i < end → q.first + c < q.end
  tried_inside h p l = omega (arith, command_is, command_below (alone L q) 0 i (omega arith))

  pub hit_is : (K : ℕ → Bool) → hit_at (alone L q) K 0 i ≡ command_hits L K (q.first + c)
  unfolding hit_at hits hit command_hits command_hit
  hit_is K = sym (rw command_is)

-- ---- the first places

module _ {P : Plan} {K : ℕ → Bool} {s : ℕ} where
  pub none_hit : AllHit P K s 0
  none_hit = record { part = omega arith; hit = λ i l. absurd (omega arith) }

  -- all before the first that is clear
  pub first_hit : {k : ℕ} → FirstNot (hit_at P K s) 0 (places P s) k → AllHit P K s k
  first_hit v = record { part = v.until; hit = λ i l. v.before i (omega arith) l }

  -- what is hit stays hit with a larger set
  pub more_hit : {L : ℕ → Bool} → ((x : ℕ) → K x ≡ true → L x ≡ true) → {k : ℕ} → AllHit P K s k → AllHit P L s k
  unfolding hit_at
  more_hit {L} more v = record {
    part = v.part;
    hit = λ i l. let (x, m, t) = hits_is P K s (command_at P s i) (v.hit i l) in hits_of P L s (command_at P s i) x m (more x t);
  }
