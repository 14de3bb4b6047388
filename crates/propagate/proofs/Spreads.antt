-- The commands of a group are looked at, one after another.
use mathlib.Core.Path.{◌≡◌, refl, sym, ◌∙◌}
use mathlib.Core.Bool.{Bool, true, ◌||◌}
use mathlib.Core.Logic.{◌⊎◌, inl, inr, ⊎_elim}
use mathlib.Core.List.{List}
use Prim.Native.Nat.{ℕ, suc, ◌+◌, ◌≤◌, ◌<◌}
use native.Mathlib.Decide.{dec_lt, ℕ_discrete}
use native.Mathlib.Omega.{arith}
use borrow.Author.Tests.{eq-eqb, eqb-true}
use lib.Dec.{eqb}
use lib.ListN.{get_or}
use Rattle.laws.specs.Starts.{start_of}
use Rattle.laws.proofs.Tests.{or_cases, or_left, or_right}
use Rattle.laws.proofs.Starts.{start_next}
use Rattle.model.specs.Tables.{Lists}
use Rattle.propagate.specs.Net.{net_of, net_layer, Ranges, Indexed}
use Rattle.propagate.specs.Progress.{Progress, QueueBound, Moved, Among}
use Rattle.propagate.proofs.Hits.{to_in}
use Rattle.propagate.proofs.Visits.{watch_more}

module _ {n : ℕ} (C : Lists) (tos owner : List ℕ) (k : ℕ) where
  -- nothing is looked at yet
  pub moved_none : Ranges n C.count tos → (D : ℕ → Type 0) (X : Progress) → QueueBound (n) X → ((c : ℕ) → D c → ⊥)
      → Moved n C tos owner k D X X
  moved_none ends D X bound none = record {
    towards = λ froms K G G' hi low own left v.
        record {
          ranked = v.ranked;
          fresh = v.fresh;
          queued = v.queued;
          watches = λ s h e.
              let N = net_of n C froms tos in
              let c = get_or X.watch s 0 in
              watch_more N (net_layer N K k) G G' s c (v.watches s h e) (λ l t. left c (omega (arith, to_in N ends s h)) t (none c));
        };
    bound = bound;
    kept = λ i g. refl;
    rest = λ i g. refl;
    more = omega arith;
  }

  -- one command more
  pub moved_next : (D E : ℕ → Type 0) (X Y Z : Progress) (c : ℕ) → Moved n C tos owner k D X Y
      → Moved n C tos owner k (λ (d : ℕ). d ≡ c) Y Z
      → ((d : ℕ) → E d → D d ⊎ (d ≡ c)) → Moved n C tos owner k E X Z
  moved_next D E X Y Z c M P sub = record {
    towards = λ froms K G G' hi low own left v.
        P.towards froms K (λ d. G' d || eqb d c) G' hi (omega (arith, M.more)) own (λ d l t n. drop G' d t n)
        (M.towards froms K G (λ d. G' d || eqb d c) hi low own (λ d l t n. keep G G' left d l t n (ℕ_discrete d c)) v);
    bound = P.bound;
    kept = λ i g. P.kept i (omega (arith, M.more)) ∙ M.kept i g;
    rest = λ i g. P.rest i g ∙ M.rest i g;
    more = omega (arith, M.more, P.more);
  }
    where
      drop : (G' : ℕ → Bool) (d : ℕ) → G' d || eqb d c ≡ true → (d ≡ c → ⊥) → G' d ≡ true
      drop G' d t n = ⊎_elim (λ e. e) (λ e. absurd (n (eqb-true d c e))) (or_cases (G' d) (eqb d c) t)

      keep : (G G' : ℕ → Bool) → ((d : ℕ) → d < C.count → G d ≡ true → (E d → ⊥) → G' d ≡ true) → (d : ℕ) → d < C.count → G d ≡ true
          → (D d → ⊥)
          → Dec (d ≡ c) → G' d || eqb d c ≡ true
      keep G G' left d l t n (yes e) = or_right (G' d) (eqb d c) (eq-eqb d c e)
      keep G G' left d l t n (no e) = or_left (G' d) (eqb d c) (left d l t (λ x. ⊎_elim n e (sub d x)))

-- The walk over the users from place a on, at place p.
module _ {n : ℕ} (C : Lists) (tos owner : List ℕ) (k : ℕ) (users : List ℕ) (a : ℕ) (X : Progress) where
  pub spread_start : Ranges n C.count tos → QueueBound (n) X → Moved n C tos owner k (Among users a a) X X
  spread_start ends bound = moved_none C tos owner k ends (Among users a a) X bound (λ c t. omega (arith, t.since, t.below))

  pub spread_next : (p : ℕ) (Y Z : Progress) (c : ℕ) → c ≡ get_or users p 0 → Moved n C tos owner k (Among users a p) X Y
      → Moved n C tos owner k (λ (d : ℕ). d ≡ c) Y Z → Moved n C tos owner k (Among users a (p + 1)) X Z
  spread_next p Y Z c e M P =
      moved_next C tos owner k (Among users a p) (Among users a (p + 1)) X Y Z c M P (λ d t. go d t (dec_lt t.place p))
    where
      go : (d : ℕ) → (t : Among users a (p + 1) d) → Dec (t.place < p) → Among users a p d ⊎ (d ≡ c)
      go d t (yes h) = inl (record { place = t.place; since = t.since; below = h; stands = t.stands })
      go d t (no h) = let z : t.place ≡ p = omega (arith, t.below) in inr (sym t.stands ∙ rw z (sym e))

  pub spread_done : (p z : ℕ) (Y : Progress) → Moved n C tos owner k (Among users a p) X Y → p ≤ z → z ≤ p → (b e : ℕ) → a ≡ b → z ≡ e
      → Moved n C tos owner k (Among users b e) X Y
  spread_done p z Y M g h b e q f = let y : p ≡ e = omega arith in rw (← q, ← y) M

-- the places of a group, and the command that is read there
module _ {n : ℕ} (C : Lists) (offsets users owner : List ℕ) (I : Indexed n C offsets users owner) (o : ℕ) (h : o < n) (a z : ℕ)
    (q : a ≡ start_of offsets (n) C.end o) (r : z ≡ start_of offsets (n) C.end (o + 1)) where
  top : z ≡ start_of offsets (n) C.end (suc o)
  top = r ∙ start_next offsets (n) C.end o

  pub group_order : a ≤ z
  group_order = omega (arith, top, I.grouped.rises o h)

  module _ (p : ℕ) (g : a ≤ p) (l : p < z) where
    pub group_end : p < C.end
    group_end = omega (arith, top, I.grouped.within o h)

    pub group_command : (c : ℕ) → c ≡ get_or users p 0 → c < C.count
    group_command c e = omega (arith, e, I.grouped.inside o p h (omega arith) (omega (arith, top)))
