-- The practice alone is kept of the commands that count: state by state, and the seeds come back from the ranks.
use mathlib.Core.Path.{◌≡◌, refl, sym, ap, ◌∙◌}
use mathlib.Core.Bool.{Bool, true, false}
use mathlib.Core.Logic.{◌⊎◌, inl, inr, ⊎_elim}
use mathlib.Core.List.{List}
use mathlib.Core.Option.{Option, none, some}
use Prim.Native.Nat.{ℕ, zero, suc, ◌+◌, ◌<◌, ◌≤◌}
use native.Mathlib.Decide.{dec_lt}
use native.Mathlib.Omega.{arith}
use lib.Dec.{eqb}
use lib.ListN.{length, get_or}
use borrow.Author.Tests.{lt-ltb, le-ltb, eq-eqb, ne_eqb}
use Rattle.std.specs.Bool.{then_some}
use Rattle.laws.specs.Entry.{FFFF, entry}
use Rattle.laws.specs.Sets.{grow}
use Rattle.laws.proofs.Defaults.{get_or_inside}
use Rattle.laws.proofs.Fills.{filled_as, filled_is, filled_of}
use Rattle.laws.proofs.Sets.{lowest_some, lowest_eq}
use Rattle.laws.proofs.Tests.{clash}
use Rattle.model.specs.Tables.{Lists}
use Rattle.tables.specs.Meaning.{option_of}
use Rattle.propagate.specs.Net.{Net, net_of, depth, seeds, Seeded}
use Rattle.nets.specs.Nets.{one_end, seed_again, PracticeKept}
use Rattle.nets.specs.Found.{depth_table, copied, OwnRanges, PracticeFound}
use Rattle.nets.proofs.Initializing.{zero_entry}

-- ---- of one state

module _ (from to : ℕ) where
  pub end_one : from < to → from + 1 ≡ one_end from to
  unfolding one_end
  end_one h = rw (lt-ltb from to h)

  pub end_none : to ≤ from → to ≡ one_end from to
  unfolding one_end
  end_none h = rw (le-ltb from to h)

  pub end_inside : from ≤ to → (from ≤ one_end from to) × (one_end from to ≤ to)
  end_inside l = go (dec_lt from to)
    where
      go : Dec (from < to) → (from ≤ one_end from to) × (one_end from to ≤ to)
      go (yes h) = omega (arith, end_one h)
      go (no h) = omega (arith, end_none (omega arith))

module _ (rank : ℕ) where
  pub again_is : entry (option_of (then_some (eqb rank 0) 0)) ≡ seed_again rank
  unfolding seed_again
  again_is = zero_entry (eqb rank 0)

  again_seed : rank ≡ 0 → 0 ≡ seed_again rank
  unfolding seed_again
  again_seed h = rw (eq-eqb rank 0 h)

  again_none : (rank ≡ 0 → ⊥) → FFFF ≡ seed_again rank
  unfolding seed_again
  again_none h = rw (ne_eqb rank 0 h)

  pub again_either : (seed_again rank ≡ 0) ⊎ (seed_again rank ≡ FFFF)
  unfolding seed_again
  again_either = go (eqb rank 0) refl
    where
      go : (b : Bool) → eqb rank 0 ≡ b → (seed_again rank ≡ 0) ⊎ (seed_again rank ≡ FFFF)
      go true e = inl (rw e)
      go false e = inr (rw e)

  pub again_small : seed_again rank < 65536
  again_small = ⊎_elim (λ e. omega (arith, e)) (λ e. omega (arith, e)) again_either

-- ---- the seeds come back: only they have rank 0

module _ (N : Net) (K : ℕ → Bool) (s : ℕ) where
  depth_seed : K s ≡ true → depth N K s ≡ some 0
  unfolding depth grow
  depth_seed e = lowest_eq _ (suc N.states) (some 0) (omega arith, e, λ j l. absurd (omega arith))

  depth_later : K s ≡ false → FFFF ≡ seed_again (entry (depth N K s))
  unfolding depth grow entry
  depth_later e = go (depth N K s) refl
    where
      go : (o : Option ℕ) → depth N K s ≡ o → FFFF ≡ seed_again (entry o)
      go none q = again_none FFFF (λ z. omega arith)
      go (some zero) q = clash (lowest_some _ (suc N.states) 0 q).1 e
      go (some (suc i)) q = again_none (suc i) (λ z. omega arith)

module _ (N : Net) {r r' : List ℕ} (sown : Seeded N.states r) (long : N.states ≤ length r) (found : r' ≡ depth_table N r) where
  seed_back : (s : ℕ) → s < N.states → seed_again (get_or r' s 0) ≡ get_or r s 0
  unfolding entry
  seed_back s l = rw ((filled_of long found).low s l) (⊎_elim zero_there none_there (sown.seeded s l))
    where
      seed_is : seeds r s ≡ eqb (get_or r s 0) 0
      seed_is = ap (λ (x : ℕ). eqb x 0) (get_or_inside r s 1 0 (omega arith))

      zero_there : get_or r s 0 ≡ 0 → seed_again (entry (depth N (seeds r) s)) ≡ get_or r s 0
      zero_there z =
          ap (λ (o : Option ℕ). seed_again (entry o)) (depth_seed N (seeds r) s (seed_is ∙ eq-eqb (get_or r s 0) 0 z))
          ∙ sym (again_seed 0 refl) ∙ sym z

      none_there : get_or r s 0 ≡ FFFF → seed_again (entry (depth N (seeds r) s)) ≡ get_or r s 0
      none_there z = sym (depth_later N (seeds r) s (seed_is ∙ ne_eqb (get_or r s 0) 0 (λ (q : get_or r s 0 ≡ 0). omega arith))) ∙ sym z

  module _ {w e m w' e' m' : List ℕ} (v : PracticeKept N.states r' w e m w' e' m') where
    seeds_copied : N.states ≤ length m → m' ≡ copied N.states r m
    seeds_copied h = filled_is h (filled_as seed_back v.seeded)

    -- with what the propagation of the practice leaves then
    pub practice_found : (C : Lists) → N.states ≤ length m → {m'' : List ℕ} → m'' ≡ depth_table (net_of N.states C w' e') m'
        → PracticeFound N.states C r e m e' m''
    practice_found C h q = record {
      froms = w';
      begins = v.begins.low;
      stops = v.stops;
      failed = q ∙ ap (depth_table (net_of N.states C w' e')) (seeds_copied h);
    }

-- ---- what the propagation of the practice asks

module _ {n : ℕ} {r w e m w' e' m' : List ℕ} (v : PracticeKept n r w e m w' e' m') where
  pub kept_seeded : Seeded n m'
  kept_seeded = record { seeded = λ s l. rw (v.seeded.low s l) (again_either (get_or r s 0)) }

  pub kept_own : {k : ℕ} {starts : List ℕ} → OwnRanges n k starts m e → n ≤ length w → OwnRanges n k starts w' e'
  kept_own o lw = record {
    long_froms = omega (arith, v.begins.same);
    long_tos = omega (arith, v.stops.same, o.long_tos);
    inside = λ s l.
        let i = o.inside s l in
        let j = end_inside (get_or m s 0) (get_or e s 0) i.1 in
        rw (v.begins.low s l, v.stops.low s l) (i.0, j.0, omega (arith, i.2, j.1));
  }
