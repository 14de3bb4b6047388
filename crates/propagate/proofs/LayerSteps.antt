-- A layer from the states of the last one: the walk over the queue from lo on, below hi, at place h.
use mathlib.Core.Path.{◌≡◌, sym, ◌∙◌}
use mathlib.Core.Bool.{Bool, true}
use mathlib.Core.Logic.{⊎_elim}
use mathlib.Core.List.{List, Memᴰ}
use Prim.Native.Nat.{ℕ, suc, ◌+◌, ◌≤◌, ◌<◌}
use native.Mathlib.Decide.{dec_lt, dec_le, ℕ_discrete}
use native.Mathlib.Numerals.{add-one}
use native.Mathlib.Omega.{arith}
use borrow.Author.Tests.{le-leb, leb-true}
use lib.Dec.{leb}
use lib.ListN.{get_or}
use Rattle.laws.specs.Entry.{FFFF}
use Rattle.laws.specs.Starts.{start_of}
use Rattle.laws.proofs.Tests.{same_test}
use Rattle.laws.proofs.Grow.{grow_step, grow_more, grow_add}
use Rattle.laws.proofs.Starts.{start_next}
use Rattle.model.specs.Tables.{Lists}
use Rattle.model.specs.Places.{list_at}
use Rattle.tables.specs.Ready.{Ready}
use Rattle.index.proofs.Groups.{entry_in}
use Rattle.choice.specs.Within.{command_hits}
use Rattle.propagate.specs.Net.{Net, net_of, losing, net_layer, Ranges, Indexed, Owns}
use Rattle.propagate.specs.Progress.{Progress, QueueBound, TowardsLayer, Moved, Among, waiting, AtLayer, Layered}
use Rattle.propagate.proofs.Hits.{hit_some, hit_of, hit_more, lose_some, lose_at, to_in}
use Rattle.propagate.proofs.Counting.{count_le}
use Rattle.propagate.proofs.Waits.{wait_at, wait_of}

-- no command waits when the walk is over
pub none_waits : (C : Lists) (q : List ℕ) (lo hi c : ℕ) → hi ≤ lo → command_hits C (waiting q lo hi) c ≡ true → ⊥
none_waits C q lo hi c h t =
    let (o, m, e) = hit_some C (waiting q lo hi) c t in
    let (i, p, l, f) = wait_at q lo hi o e in
    omega arith

-- a state that layers 0 to k lose has a rank, or a command that it watches waits
pub lost_waits : (N : Net) (K G : ℕ → Bool) (k hi : ℕ) (X : Progress) → TowardsLayer N K k hi G X → (s : ℕ) → s < N.states
    → losing N (net_layer N K k) s ≡ true
    → get_or X.ranks s 0 ≡ FFFF → G (get_or X.watch s 0) ≡ true
lost_waits N K G k hi X v s h t e =
    let y = v.watches s h e in
    let l = y.until (lose_some N (net_layer N K k) s t) in
    y.pending l (lose_at N (net_layer N K k) s t (get_or X.watch s 0) y.since l)

-- the walk at place h
pub record LayerStep (n : ℕ) (C : Lists) (tos owner : List ℕ) (k lo : ℕ) (X : Progress) (h : ℕ) (Y : Progress) : Type 0 where
  pub order : h ≤ X.end
  pub more : X.end ≤ Y.end
  pub bound : QueueBound (n) Y
  pub kept : (i : ℕ) → i < X.end → get_or Y.queue i 0 ≡ get_or X.queue i 0
  pub rest : (i : ℕ) → n ≤ i → get_or Y.ranks i 0 ≡ get_or X.ranks i 0
  pub towards : (froms : List ℕ) (K : ℕ → Bool) → Owns (net_of n C froms tos) owner → AtLayer (net_of n C froms tos) K k lo X
      → TowardsLayer (net_of n C froms tos) K k X.end (command_hits C (waiting X.queue h X.end)) Y

module _ {n : ℕ} (C : Lists) (tos owner : List ℕ) (k lo : ℕ) (X : Progress) where
  module _ (h : ℕ) (Y : Progress) (v : LayerStep n C tos owner k lo X h Y) where
    pub layer_at : (len : ℕ) → n ≤ len → h < X.end → h < len
    layer_at len l g = omega (arith, v.more, v.bound.few, count_le (n) Y.ranks)

    pub layer_next : (offsets users : List ℕ) → Indexed n C offsets users owner → h < X.end → (o : ℕ) → o ≡ get_or Y.queue h 0
        → (Z : Progress)
        → Moved n C tos owner k (Among users (start_of offsets (n) C.end o) (start_of offsets (n) C.end (o + 1))) Y Z
        → LayerStep n C tos owner k lo X (h + 1) Z
    layer_next offsets users I g o e Z M = record {
      order = omega arith;
      more = omega (arith, v.more, M.more);
      bound = M.bound;
      kept = λ i l. M.kept i (omega (arith, v.more)) ∙ v.kept i l;
      rest = λ i l. M.rest i l ∙ v.rest i l;
      towards = λ froms K own u.
          M.towards froms K (command_hits C (waiting X.queue h X.end)) (command_hits C (waiting X.queue (h + 1) X.end)) X.end
          v.more own left (v.towards froms K own u);
    }
      where
        found : (c u i : ℕ) → c < C.count → Memᴰ u (list_at C c) → h ≤ i → i < X.end → get_or X.queue i 0 ≡ u
            → (Among users (start_of offsets (n) C.end o) (start_of offsets (n) C.end (o + 1)) c → ⊥) → Dec (i ≡ h)
            → command_hits C (waiting X.queue (h + 1) X.end) c ≡ true
        found c u i l m p b f n (no d) = hit_of C (waiting X.queue (h + 1) X.end) c u m
            (wait_of X.queue (h + 1) X.end u i (omega arith) b f)
        found c u i l m p b f out (yes d) =
            let z : u ≡ o = sym f ∙ rw d (sym (v.kept h g) ∙ sym e) in
            let (x, s, t, y) = I.grouped.has c u l m in
            absurd (out (rw (start_next offsets (n) C.end o, ← z) (record { place = x; since = s; below = t; stands = y })))

        left : (c : ℕ) → c < C.count → command_hits C (waiting X.queue h X.end) c ≡ true
            → (Among users (start_of offsets (n) C.end o) (start_of offsets (n) C.end (o + 1)) c → ⊥)
            → command_hits C (waiting X.queue (h + 1) X.end) c ≡ true
        left c l t n =
            let (u, m, w) = hit_some C (waiting X.queue h X.end) c t in
            let (i, p, b, f) = wait_at X.queue h X.end u w in
            found c u i l m p b f n (ℕ_discrete i h)

    -- the end of the walk
    module _ (R : Ready n C) (ends : Ranges n C.count tos) (small : k < 1024) (over : X.end ≤ h) where
      module _ (froms : List ℕ) (K : ℕ → Bool) (own : Owns (net_of n C froms tos) owner) (u : AtLayer (net_of n C froms tos) K k lo X) where
        abbrev N : Net
        N = net_of n C froms tos

        abbrev r : ℕ → ℕ
        r s = get_or Y.ranks s 0

        y : TowardsLayer N K k X.end (command_hits C (waiting X.queue h X.end)) Y
        y = v.towards froms K own u

        low : (s : ℕ) → s < n → (r s ≡ FFFF → ⊥) → r s ≤ k + 1
        low s g n = go (dec_lt k (r s))
          where
            go : Dec (k < r s) → r s ≤ k + 1
            go (yes l) = omega (arith, (y.fresh s g l n).0)
            go (no l) = omega arith

        -- layer k + 1 has its ranks
        next : (s : ℕ) → s < n → leb (r s) (k + 1) ≡ net_layer N K (k + 1) s
        next s g = rw (add-one k) (same_test (leb (r s) (suc k)) (net_layer N K (suc k) s) into out)
          where
            into : leb (r s) (suc k) ≡ true → net_layer N K (suc k) s ≡ true
            into t = go (dec_lt k (r s))
              where
                go : Dec (k < r s) → net_layer N K (suc k) s ≡ true
                go (no l) = grow_more (losing N) K k s (sym (y.ranked k s (omega arith) g) ∙ le-leb (r s) k (omega arith))
                go (yes l) = grow_add (losing N) K k s (y.fresh s g l (λ z. omega (arith, leb-true (r s) (suc k) t))).1

            out : net_layer N K (suc k) s ≡ true → leb (r s) (suc k) ≡ true
            out t = ⊎_elim old (λ e. new e (ℕ_discrete (r s) FFFF)) (grow_step (losing N) K k s t)
              where
                old : net_layer N K k s ≡ true → leb (r s) (suc k) ≡ true
                old e = le-leb (r s) (suc k) (omega (arith, leb-true (r s) k (y.ranked k s (omega arith) g ∙ e)))

                new : losing N (net_layer N K k) s ≡ true → Dec (r s ≡ FFFF) → leb (r s) (suc k) ≡ true
                new e (no n) = le-leb (r s) (suc k) (omega (arith, low s g n))
                new e (yes z) = absurd (none_waits C X.queue h X.end (get_or Y.watch s 0) over
                    (lost_waits N K _ k X.end Y y s g e z))

        -- a watched command that layers 0 to k + 1 hit has an outcome of rank k + 1, and that waits
        waits : (c : ℕ) → c < C.count → (command_hits C (net_layer N K k) c ≡ true → ⊥) → command_hits C (net_layer N K (k + 1)) c ≡ true
            → command_hits C (waiting Y.queue X.end Y.end) c ≡ true
        waits c l new t =
            let (o, m, e) = hit_some C (net_layer N K (k + 1)) c t in
            let g = entry_in C R c o l m in
            let f = next o g ∙ e in
            go o m g (leb-true (r o) (k + 1) f) (dec_le (r o) k)
          where
            go : (o : ℕ) → Memᴰ o (list_at C c) → o < n → r o ≤ k + 1 → Dec (r o ≤ k)
                → command_hits C (waiting Y.queue X.end Y.end) c ≡ true
            go o m g f (yes d) = absurd (new (hit_of C (net_layer N K k) c o m (sym (y.ranked k o (omega arith) g) ∙ le-leb (r o) k d)))
            go o m g f (no d) =
                let (i, p, b, q) = y.queued o g (omega arith) in
                hit_of C (waiting Y.queue X.end Y.end) c o m (wait_of Y.queue X.end Y.end o i p b q)

        at_layer : AtLayer N K (k + 1) X.end Y
        at_layer = record {
          low = low;
          towards = record {
            ranked = λ j s a g. rank j s a g (dec_le j k);
            fresh = λ s g a n. absurd (omega (arith, low s g n));
            watches = λ s g e.
                let w = y.watches s g e in
                let b = to_in N ends s g in
                record {
                  since = w.since;
                  until = w.until;
                  before = λ i p q d. more i (omega arith) (w.before i p q d);
                  pending = λ l t. waits (get_or Y.watch s 0) (omega arith)
                      (λ f. none_waits C X.queue h X.end _ over (w.pending l f)) t;
                };
            queued = λ s g e. absurd (omega (arith, low s g (λ z. omega arith)));
          };
        }
          where
            rank : (j s : ℕ) → j ≤ k + 1 → s < n → Dec (j ≤ k) → leb (r s) j ≡ net_layer N K j s
            rank j s a g (yes d) = y.ranked j s d g
            rank j s a g (no d) = let z : j ≡ k + 1 = omega arith in rw z (next s g)

            more : (c : ℕ) → c < C.count → command_hits C (net_layer N K k) c ≡ true → command_hits C (net_layer N K (k + 1)) c ≡ true
            more c l t = rw (add-one k) (hit_more C R (net_layer N K k) (net_layer N K (suc k)) (λ s g e. grow_more (losing N) K k s e) c l t)

      pub layer_done : Layered n C tos owner k lo X Y
      layer_done = record { at_layer = at_layer; bound = v.bound; rest = v.rest; more = v.more }
