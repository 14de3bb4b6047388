-- The tables before the first layer: the states of rank 0 wait in the queue, and each state watches the first command of its range.
use mathlib.Core.Path.{◌≡◌, refl, sym, ◌∙◌}
use mathlib.Core.Bool.{true, not}
use mathlib.Core.Logic.{◌⊎◌, inl, inr}
use mathlib.Core.List.{List}
use Prim.Native.Nat.{ℕ, ◌+◌, ◌≤◌, ◌<◌}
use native.Mathlib.Decide.{dec_lt}
use native.Mathlib.Numerals.{add-one}
use native.Mathlib.Omega.{arith}
use borrow.Author.Tests.{le-leb, lt-leb, eq-eqb, ne_eqb, eqb-true}
use lib.Dec.{eqb, leb}
use lib.ListN.{length, get_or, set}
use lib.Seq.{get_or-set_same, get_or-set_other}
use Rattle.laws.specs.Entry.{FFFF}
use Rattle.laws.specs.Sets.{grow}
use Rattle.laws.proofs.Counts.{many_yes, many_upto}
use Rattle.laws.proofs.Defaults.{get_or_inside}
use Rattle.model.specs.Tables.{Lists}
use Rattle.tables.specs.Ready.{Ready}
use Rattle.index.proofs.Groups.{entry_in}
use Rattle.choice.specs.Within.{command_hits}
use Rattle.propagate.specs.Net.{Net, net_of, from, net_layer, seeds, Seeded, Ranges}
use Rattle.propagate.specs.Progress.{progress, rank_count, QueueBound, waiting, AtLayer, SeedsQueued}
use Rattle.propagate.proofs.Hits.{hit_some, hit_of, to_in}
use Rattle.propagate.proofs.Counting.{has_rank, count_le}
use Rattle.propagate.proofs.Waits.{wait_of}

pub seeds_end : (r q : List ℕ) (s e : ℕ) → SeedsQueued r q s e → e ≤ s
seeds_end r q s e v = omega (arith, v.few, count_le s r)

-- the state s, of which x was read
module _ (r q : List ℕ) (s e : ℕ) (v : SeedsQueued r q s e) (x : ℕ) (p : x ≡ get_or r s 0) where
  pub seeds_skip : (x ≡ 0 → ⊥) → SeedsQueued r q (s + 1) e
  unfolding rank_count
  seeds_skip n = record {
    few = omega (arith, v.few, many_upto (λ i. not (eqb (get_or r i 0) FFFF)) s (s + 1) (omega arith));
    states = λ i l. omega (arith, v.states i l);
    found = λ u l z. find u l z (dec_lt u s);
  }
    where
      find : (u : ℕ) → u < s + 1 → get_or r u 0 ≡ 0 → Dec (u < s) → (i : ℕ) × (i < e) × (get_or q i 0 ≡ u)
      find u l z (yes d) = v.found u d z
      find u l z (no d) = let y : u ≡ s = omega arith in absurd (n (p ∙ (rw y at z)))

  pub seeds_add : x ≡ 0 → s < length q → (q' : List ℕ) → q' ≡ set q e s → SeedsQueued r q' (s + 1) (e + 1)
  unfolding rank_count
  seeds_add z long q' f = record {
    few = rw (add-one s) (omega (arith, v.few, many_yes (λ i. not (eqb (get_or r i 0) FFFF)) s (has_rank (get_or r s 0) (λ y. omega arith))));
    states = λ i l. state i l (dec_lt i e);
    found = λ u l y. find u l y (dec_lt u s);
  }
    where
      old : (i : ℕ) → i < e → get_or q' i 0 ≡ get_or q i 0
      old i l = rw f (get_or-set_other q e i s 0 (omega arith))

      new : get_or q' e 0 ≡ s
      new = rw f (get_or-set_same q e s 0 (omega (arith, seeds_end r q s e v)))

      state : (i : ℕ) → i < e + 1 → Dec (i < e) → get_or q' i 0 < s + 1
      state i l (yes d) = omega (arith, old i d, v.states i d)
      state i l (no d) = let y : i ≡ e = omega arith in rw y (omega (arith, new))

      find : (u : ℕ) → u < s + 1 → get_or r u 0 ≡ 0 → Dec (u < s) → (i : ℕ) × (i < e + 1) × (get_or q' i 0 ≡ u)
      find u l y (yes d) = let (i, a, b) = v.found u d y in (i, omega arith, old i a ∙ b)
      find u l y (no d) = let t : u ≡ s = omega arith in (e, omega arith, new ∙ sym t)

module _ {n : ℕ} (C : Lists) (R : Ready n C) (tos : List ℕ) (ends : Ranges n C.count tos) (r w q : List ℕ) (long : n ≤ length r)
    (a : Seeded (n) r) (e : ℕ) (v : SeedsQueued r q (n) e) where
  abbrev N : Net
  N = net_of n C w tos

  pub start_bound : QueueBound (n) (progress r w q e)
  start_bound = record { few = v.few; states = v.states }

  low : (s : ℕ) → s < n → (get_or r s 0 ≡ FFFF → ⊥) → get_or r s 0 ≤ 0
  low s h n = go (a.seeded s h)
    where
      go : (get_or r s 0 ≡ 0) ⊎ (get_or r s 0 ≡ FFFF) → get_or r s 0 ≤ 0
      go (inl z) = omega arith
      go (inr z) = absurd (n z)

  zero_rank : (s : ℕ) → s < n → net_layer N (seeds r) 0 s ≡ true → get_or r s 0 ≡ 0
  unfolding grow
  zero_rank s h t = get_or_inside r s 0 1 (omega arith) ∙ eqb-true (get_or r s 1) 0 t

  ranked : (s : ℕ) → s < n → leb (get_or r s 0) 0 ≡ net_layer N (seeds r) 0 s
  unfolding grow
  ranked s h = go (a.seeded s h)
    where
      here : get_or r s 1 ≡ get_or r s 0
      here = get_or_inside r s 1 0 (omega arith)

      go : (get_or r s 0 ≡ 0) ⊎ (get_or r s 0 ≡ FFFF) → leb (get_or r s 0) 0 ≡ eqb (get_or r s 1) 0
      go (inl z) = le-leb (get_or r s 0) 0 (omega arith) ∙ sym (eq-eqb (get_or r s 1) 0 (here ∙ z))
      go (inr z) = lt-leb (get_or r s 0) 0 (omega arith) ∙ sym (ne_eqb (get_or r s 1) 0 (λ y. omega (arith, here)))

  waits : (c : ℕ) → c < C.count → command_hits C (net_layer N (seeds r) 0) c ≡ true → command_hits C (waiting q 0 e) c ≡ true
  waits c l t =
      let (o, m, f) = hit_some C (net_layer N (seeds r) 0) c t in
      let h = entry_in C R c o l m in
      let (i, b, d) = v.found o h (zero_rank o h f) in
      hit_of C (waiting q 0 e) c o m (wait_of q 0 e o i (omega arith) b d)

  first : (s : ℕ) → from N s ≡ get_or w s 0
  unfolding from
  first s = refl

  pub start_at_layer : AtLayer N (seeds r) 0 0 (progress r w q e)
  start_at_layer = record {
    low = low;
    towards = record {
      ranked = λ j s l h. let z : j ≡ 0 = omega arith in rw z (ranked s h);
      fresh = λ s h l n. absurd (omega (arith, low s h n));
      watches = λ s h z.
          let b = to_in N ends s h in
          record {
            since = omega (arith, first s);
            until = λ l. omega (arith, first s);
            before = λ i l g. absurd (omega (arith, first s));
            pending = λ l t. waits (get_or w s 0) (omega arith) t;
          };
      queued = λ s h z. absurd (omega (arith, low s h (λ y. omega arith)));
    };
  }
