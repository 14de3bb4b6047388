-- What a propagation finds: with all commands counting the ranks, with the practice alone where it fails.
use mathlib.Core.Path.{◌≡◌, refl, sym, ap, ◌∙◌}
use mathlib.Core.Bool.{Bool, true, false, cond}
use mathlib.Core.Logic.{◌⊎◌, inl, inr}
use mathlib.Core.List.{List}
use mathlib.Core.Option.{some}
use Prim.Native.Nat.{ℕ, suc, ◌<◌, ◌≤◌}
use native.Mathlib.Omega.{arith}
use lib.Dec.{eqb}
use lib.ListN.{length, get_or}
use Rattle.laws.specs.Entry.{FFFF, highest, entry}
use Rattle.laws.specs.Filled.{Filled}
use Rattle.laws.specs.Sets.{lowest, grow}
use Rattle.laws.proofs.Defaults.{get_or_inside}
use Rattle.laws.proofs.Tries.{lowest_same}
use Rattle.laws.proofs.Sets.{lowest_some}
use Rattle.laws.proofs.Fills.{filled_as, filled_of}
use Rattle.laws.proofs.Agree.{Agree}
use Rattle.laws.proofs.GrowSame.{grow_same, grow_found}
use Rattle.laws.proofs.EntryFound.{entry_found}
use Rattle.model.specs.File.{max_states}
use Rattle.model.specs.Plan.{Plan, failing}
use Rattle.model.specs.Verdict.{forced, layer, rank, lost}
use Rattle.model.specs.Practice.{practice_hits, practice_fails}
use Rattle.model.specs.Tables.{Tables, lists_in}
use Rattle.model.specs.SoundTest.{sound}
use Rattle.model.specs.Held.{plan_in}
use Rattle.model.proofs.HeldPlan.{states_held}
use Rattle.model.proofs.Layers.{rank_bound}
use Rattle.model.proofs.SoundFacts.{sound_facts}
use Rattle.tables.specs.declared.Row.{Row}
use Rattle.tables.specs.declared.Size.{Size}
use Rattle.tables.specs.declared.sound_plan.SoundPlan.{SoundPlan}
use Rattle.tables.specs.Meaning.{held, lent}
use Rattle.tables.specs.Spans.{span_at, failing_span}
use Rattle.tables.proofs.SoundPlans.{plan_ready}
use Rattle.tables.proofs.SpanFacts.{span_failing}
use Rattle.choice.specs.Within.{within}
use Rattle.propagate.specs.Net.{Net, net_of, losing, depth, seeds, Seeded}
use Rattle.nets.specs.Nets.{practice_place, seed_of, one_end}
use Rattle.nets.specs.Found.{depth_table}
use Rattle.nets.proofs.NetSteps.{losing_all, losing_practice}

zero_test : (b : Bool) → eqb (cond b 0 FFFF) 0 ≡ b
zero_test true = refl
zero_test false = refl

zero_or_none : (b : Bool) → (cond b 0 FFFF ≡ 0) ⊎ (cond b 0 FFFF ≡ FFFF)
zero_or_none true = inl refl
zero_or_none false = inr refl

-- what is left below n may be anything
pub filled_past : {n : ℕ} {f : ℕ → ℕ} {l₀ l : List ℕ} → Filled n f l₀ l → Filled n (λ s. get_or l s 0) l₀ l
filled_past v = record { same = v.same; low = λ x h. refl; high = v.high }

module _ (p : SoundPlan) where
  abbrev T : Tables
  T = lent p.plan

  abbrev P : Plan
  P = plan_in T

  abbrev n : ℕ
  n = p.plan.size.n

  abbrev net : List ℕ → List ℕ → Net
  net = net_of n (lists_in T)

  few : n ≤ max_states
  few = (plan_ready p).few

  -- a table of seeds
  module _ (r : List ℕ) (long : n ≤ length r) (sown : (s : ℕ) → s < n → get_or r s 0 ≡ seed_of (span_at T s)) where
    pub sown_seeded : Seeded n r
    unfolding seed_of
    sown_seeded = record { seeded = λ s l. rw (sown s l) (zero_or_none (failing_span (span_at T s))) }

    seeds_are : Agree n (seeds r) (failing P)
    unfolding seed_of
    seeds_are s l = rw (get_or_inside r s 1 0 (omega arith), sown s l) (zero_test (failing_span (span_at T s))) ∙ span_failing T s l

    module _ (w e : List ℕ) {r' : List ℕ} (found : r' ≡ depth_table (net w e) r) where
      filled : Filled n (λ s. entry (depth (net w e) (seeds r) s)) r r'
      filled = filled_of long found

      pub depths_filled : Filled n (λ s. get_or r' s 0) r r'
      depths_filled = filled_past filled

      -- ---- all commands

      module _ (begins : (s : ℕ) → s < n → get_or w s 0 ≡ (span_at T s).first)
          (stops : (s : ℕ) → s < n → get_or e s 0 ≡ (span_at T s).end) where
        depth_rank : (s : ℕ) → s < n → depth (net w e) (seeds r) s ≡ rank P s
        unfolding depth rank
        depth_rank s l =
            lowest_same _ _ (suc n) (λ k _.
            grow_same n (losing (net w e)) (forced P)
            (λ A B h x g. losing_all p w e A B h x g (begins x g) (stops x g))
            (seeds r) (failing P) seeds_are k s l)
            ∙ ap (λ (j : ℕ). lowest (λ k. layer P k s) (suc j)) (sym (states_held T))

        pub ranks_found : Filled n (λ s. entry (rank P s)) r r'
        ranks_found = filled_as (λ s l. ap entry (depth_rank s l)) filled

      -- ---- the practice alone

      depth_small : (s i : ℕ) → depth (net w e) (seeds r) s ≡ some i → i ≤ highest
      unfolding depth
      depth_small s i q = omega (arith, (lowest_some _ (suc n) i q).0, few)

      module _ (begins : (s : ℕ) → s < n → get_or w s 0 ≡ practice_place (span_at T s))
          (stops : (s : ℕ) → s < n → get_or e s 0 ≡ one_end (practice_place (span_at T s)) (span_at T s).end) where
        pub fails_found : Agree n (within r' highest) (practice_fails P)
        unfolding depth practice_fails
        fails_found s l =
            rw (filled.low s l)
            (entry_found (depth (net w e) (seeds r) s) (depth_small s)
            ∙ grow_found (losing (net w e)) (seeds r) n s
            ∙ grow_same n _ (practice_hits P)
            (λ A B h x g. losing_practice p w e A B h x g (begins x g) (stops x g))
            (seeds r) (failing P) seeds_are n s l
            ∙ ap (λ (j : ℕ). grow (practice_hits P) (failing P) j s) (sym (states_held T)))

-- the lost states are those of a rank
module _ (size : Size) (rows : List Row) (firsts outcomes : List ℕ) (sounds : sound (held size rows firsts outcomes) ≡ true) where
  abbrev U : Tables
  U = held size rows firsts outcomes

  pub lost_found : {r₀ r' : List ℕ} → Filled size.n (λ s. entry (rank (plan_in U) s)) r₀ r' → Agree size.n (within r' highest) (lost (plan_in U))
  unfolding lost
  lost_found v s l =
      rw (v.low s l)
      (entry_found (rank (plan_in U) s) (λ i q. omega (arith, rank_bound (plan_in U) s i q, states_held U, ((sound_facts U).0 sounds).size.few)))
