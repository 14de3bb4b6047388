-- One command is looked at.
use mathlib.Core.Path.{◌≡◌, refl, sym, ap, ◌∙◌, subst}
use mathlib.Core.Bool.{Bool, true}
use mathlib.Core.List.{List}
use Prim.Native.Nat.{ℕ, ◌+◌, ◌≤◌, ◌<◌}
use native.Mathlib.Decide.{dec_lt, ℕ_discrete}
use native.Mathlib.Omega.{arith}
use borrow.Author.Tests.{lt-leb}
use lib.Dec.{leb}
use lib.ListN.{length, get_or, set}
use lib.Seq.{get_or-set_same, get_or-set_other}
use Rattle.laws.specs.Entry.{FFFF}
use Rattle.laws.specs.First.{FirstNot}
use Rattle.laws.proofs.Tests.{clash}
use Rattle.model.specs.Tables.{Lists}
use Rattle.tables.specs.Ready.{Ready}
use Rattle.choice.specs.Within.{within, command_hits}
use Rattle.propagate.specs.Net.{Net, net_of, from, to, losing, net_layer, Ranges, Owns}
use Rattle.propagate.specs.Progress.{Progress, progress, Room, QueueBound, Watch, TowardsLayer, Moved}
use Rattle.propagate.proofs.Hits.{hit_same, lose_of, to_in}
use Rattle.propagate.proofs.Counting.{queue_room, bound_next}

-- the end of a range as the table has it
to_at : (n : ℕ) (C : Lists) (froms tos : List ℕ) (s : ℕ) → to (net_of n C froms tos) s ≡ get_or tos s 0
unfolding to
to_at n C froms tos s = refl

-- another set of commands to be looked at, if it has the watched one too
pub watch_more : (N : Net) (A G G' : ℕ → Bool) (s c : ℕ) → Watch N A G s c → (c < to N s → G c ≡ true → G' c ≡ true) → Watch N A G' s c
watch_more N A G G' s c y f =
    record { since = y.since; until = y.until; before = y.before; pending = λ l t. f l (y.pending l t) }

-- The tables before the look, of the command c, whose owner is s.
module _ {n : ℕ} (C : Lists) (R : Ready n C) (tos owner : List ℕ) (ends : Ranges n C.count tos) (k : ℕ) (small : k < 1024)
    (r w q : List ℕ) (end : ℕ)
    (bound : QueueBound (n) (progress r w q end)) (c s : ℕ) (p : s ≡ get_or owner c 0) (inside : get_or owner c 0 < n) where
  h : s < n
  h = omega (arith, p)

  abbrev X : Progress
  X = progress r w q end

  abbrev Look : Progress → Type 0
  Look = Moved n C tos owner k (λ (d : ℕ). d ≡ c) X

  module _ (froms : List ℕ) (K G G' : ℕ → Bool) (hi : ℕ) (own : Owns (net_of n C froms tos) owner)
      (left : (d : ℕ) → d < C.count → G d ≡ true → (d ≡ c → ⊥) → G' d ≡ true) (v : TowardsLayer (net_of n C froms tos) K k hi G X) where
    abbrev N : Net
    N = net_of n C froms tos

    -- a state that watches c is s
    mine : (u : ℕ) → u < n → get_or r u 0 ≡ FFFF → get_or w u 0 < to N u → get_or w u 0 ≡ c → u ≡ s
    mine u g e l z = sym (own.owners u c g (omega (arith, (v.watches u g e).since)) (omega arith)) ∙ sym p

    -- one that does not goes on watching
    goes_on : (u : ℕ) → u < n → get_or r u 0 ≡ FFFF → (get_or w u 0 < to N u → get_or w u 0 ≡ c → ⊥) → Watch N (net_layer N K k) G' u (get_or w u 0)
    goes_on u g e n =
        watch_more N (net_layer N K k) G G' u (get_or w u 0) (v.watches u g e)
        (λ l t. left (get_or w u 0) (omega (arith, to_in N ends u g)) t (n l))

    -- no state watches c
    unwatched : (get_or r s 0 ≡ FFFF → get_or w s 0 ≡ c → c < get_or tos s 0 → ⊥) → TowardsLayer N K k hi G' X
    unwatched idle = record {
      ranked = v.ranked;
      fresh = v.fresh;
      queued = v.queued;
      watches = λ u g e. goes_on u g e (λ l z. go u (mine u g e l z) e l z);
    }
      where
        go : (u : ℕ) → u ≡ s → get_or r u 0 ≡ FFFF → get_or w u 0 < to N u → get_or w u 0 ≡ c → ⊥
        go u y e l z = idle (rw y at e) (rw y at z) (omega (arith, to_at n C froms tos s, rw y at l, rw y at z))

    -- s watches c, and goes on to x
    module _ (wlong : n ≤ length w) (e : get_or r s 0 ≡ FFFF) (z : get_or w s 0 ≡ c) (l : c < get_or tos s 0) (x : ℕ)
        (A : FirstNot (command_hits C (within r k)) c (get_or tos s 0) x) where
      y : Watch N (net_layer N K k) G s (get_or w s 0)
      y = v.watches s h e

      same : (d : ℕ) → d < C.count → command_hits C (within r k) d ≡ command_hits C (net_layer N K k) d
      same = hit_same C R (within r k) (net_layer N K k) (λ o g. v.ranked k o (omega arith) g)

      range_end : get_or tos s 0 ≤ C.count
      range_end = ends.inside s h

      -- the commands before x have an outcome in layers 0 to k
      passed : (i : ℕ) → from N s ≤ i → i < x → i < to N s → command_hits C (net_layer N K k) i ≡ true
      passed i a b t = go (dec_lt i c)
        where
          go : Dec (i < c) → command_hits C (net_layer N K k) i ≡ true
          go (yes d) = y.before i a (omega arith) t
          go (no d) = sym (same i (omega (arith, range_end, A.until))) ∙ A.before i (omega arith) b

      -- the other states watch what they did
      others : (u : ℕ) → u < n → get_or r u 0 ≡ FFFF → (u ≡ s → ⊥) → Watch N (net_layer N K k) G' u (get_or (set w s x) u 0)
      others u g a n =
          subst (λ (d : ℕ). Watch N (net_layer N K k) G' u d) (sym (get_or-set_other w s u x 0 n)) (goes_on u g a (λ b t. n (mine u g a b t)))

      moves : x < get_or tos s 0 → TowardsLayer N K k hi G' (progress r (set w s x) q end)
      moves b = record {
        ranked = v.ranked;
        fresh = v.fresh;
        queued = v.queued;
        watches = λ u g a. go u g a (ℕ_discrete u s);
      }
        where
          here : Watch N (net_layer N K k) G' s x
          here = record {
            since = omega (arith, y.since, A.since);
            until = λ _. omega (arith, to_at n C froms tos s);
            before = passed;
            pending = λ _ t. clash t (sym (same x (omega (arith, range_end))) ∙ A.stops b);
          }

          go : (u : ℕ) → u < n → get_or r u 0 ≡ FFFF → Dec (u ≡ s) → Watch N (net_layer N K k) G' u (get_or (set w s x) u 0)
          go u g a (no n) = others u g a n
          go u g a (yes n) = rw (n, get_or-set_same w s x 0 (omega arith)) here

      loses : get_or tos s 0 ≤ x → losing N (net_layer N K k) s ≡ true
      loses b =
          lose_of N (net_layer N K k) s (omega (arith, y.since, to_at n C froms tos s))
          (λ i a d. passed i a (omega (arith, to_at n C froms tos s)) d)

      -- it has none left, so it has rank k + 1 and waits in the queue
      ends_up : get_or tos s 0 ≤ x → n ≤ length r → n ≤ length q → hi ≤ end
          → TowardsLayer N K k hi G' (progress (set r s (k + 1)) (set w s x) (set q end s) (end + 1))
      ends_up b rlong qlong low = record {
        ranked = λ j u a g. leq j u a g (ℕ_discrete u s);
        fresh = λ u g a n. new u g a n (ℕ_discrete u s);
        watches = λ u g a. let n = apart u a in others u g (sym (old u n) ∙ a) n;
        queued = λ u g a. find u g a (ℕ_discrete u s);
      }
        where
          now : get_or (set r s (k + 1)) s 0 ≡ k + 1
          now = get_or-set_same r s (k + 1) 0 (omega arith)

          old : (u : ℕ) → (u ≡ s → ⊥) → get_or (set r s (k + 1)) u 0 ≡ get_or r u 0
          old u n = get_or-set_other r s u (k + 1) 0 n

          apart : (u : ℕ) → get_or (set r s (k + 1)) u 0 ≡ FFFF → u ≡ s → ⊥
          apart u a n = omega (arith, now, rw n at a)

          leq : (j u : ℕ) → j ≤ k → u < n → Dec (u ≡ s) → leb (get_or (set r s (k + 1)) u 0) j ≡ net_layer N K j u
          leq j u a g (no n) = ap (λ (d : ℕ). leb d j) (old u n) ∙ v.ranked j u a g
          leq j u a g (yes n) =
              rw n (lt-leb (get_or (set r s (k + 1)) s 0) j (omega (arith, now)) ∙ sym (lt-leb (get_or r s 0) j (omega arith))
              ∙ v.ranked j s a h)

          new : (u : ℕ) → u < n → k < get_or (set r s (k + 1)) u 0 → (get_or (set r s (k + 1)) u 0 ≡ FFFF → ⊥) → Dec (u ≡ s)
              → (get_or (set r s (k + 1)) u 0 ≡ k + 1) × (losing N (net_layer N K k) u ≡ true)
          new u g a f (no n) = let t = v.fresh u g (omega (arith, old u n)) (λ d. f (old u n ∙ d)) in (old u n ∙ t.0, t.1)
          new u g a f (yes n) = rw n (now, loses b)

          room : end < n
          room = queue_room n r w q end bound s h e

          find : (u : ℕ) → u < n → get_or (set r s (k + 1)) u 0 ≡ k + 1 → Dec (u ≡ s) → (i : ℕ) × (hi ≤ i) × (i < end + 1)
              × (get_or (set q end s) i 0 ≡ u)
          find u g a (yes n) = (end, low, omega arith, get_or-set_same q end s 0 (omega (arith, room)) ∙ sym n)
          find u g a (no n) =
              let (i, x₁, x₂, x₃) = v.queued u g (sym (old u n) ∙ a) in
              (i, x₁, omega arith, get_or-set_other q end i s 0 (omega arith) ∙ x₃)

  -- nothing is done
  pub look_idle : (get_or r s 0 ≡ FFFF → get_or w s 0 ≡ c → c < get_or tos s 0 → ⊥) → Look X
  look_idle idle = record {
    towards = λ froms K G G' hi low own left v. unwatched froms K G G' hi own left v idle;
    bound = bound;
    kept = λ i g. refl;
    rest = λ i g. refl;
    more = omega arith;
  }

  -- s watches c, its range ends at f, and x is the next command that is clear
  module _ (e : get_or r s 0 ≡ FFFF) (z : get_or w s 0 ≡ c) (l : c < get_or tos s 0) (room : Room n r w q) (f : ℕ) (d : f ≡ get_or tos s 0) (x : ℕ)
      (A : FirstNot (command_hits C (within r k)) c f x) where
    B : FirstNot (command_hits C (within r k)) c (get_or tos s 0) x
    B = rw d at A

    pub look_moved : x < f → (w' : List ℕ) → w' ≡ set w s x → Look (progress r w' q end)
    look_moved g w' m = rw m (record {
      towards = λ froms K G G' hi low own left v. moves froms K G G' hi own left v room.for_watch e z l x B (omega arith);
      bound = record { few = bound.few; states = bound.states };
      kept = λ i t. refl;
      rest = λ i t. refl;
      more = omega arith;
    })

    pub look_lost : f ≤ x → (w' r' q' : List ℕ) → w' ≡ set w s x → r' ≡ set r s (k + 1) → q' ≡ set q end s → Look (progress r' w' q' (end + 1))
    look_lost g w' r' q' a₁ a₂ a₃ = rw (a₁, a₂, a₃) (record {
      towards = λ froms K G G' hi low own left v. ends_up froms K G G' hi own left v room.for_watch e z l x B (omega arith) room.for_ranks room.for_queue low;
      bound = bound_next (n) r s (k + 1) h room.for_ranks (omega arith) e w q end bound room.for_queue (set w s x);
      kept = λ i t. get_or-set_other q end i s 0 (omega arith);
      rest = λ i t. get_or-set_other r s i (k + 1) 0 (omega arith);
      more = omega arith;
    })
