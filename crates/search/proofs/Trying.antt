-- What was tried in vain: nothing at first, more where a walk takes a command, and no less when what is known grows.
use mathlib.Core.Path.{◌≡◌}
use mathlib.Core.Bool.{Bool, true}
use mathlib.Core.List.{List}
use Prim.Native.Nat.{ℕ, ◌<◌, ◌≤◌}
use native.Mathlib.Decide.{ℕ_discrete}
use native.Mathlib.Omega.{arith}
use lib.ListN.{length, get_or, set}
use lib.Seq.{get_or-set_same, get_or-set_other}
use borrow.Author.Tests.{leb-true}
use Rattle.laws.specs.First.{FirstNot}
use Rattle.laws.proofs.Tries.{first_earlier}
use Rattle.model.specs.Plan.{Plan}
use Rattle.model.specs.Tables.{Tables, lists_in}
use Rattle.model.specs.Held.{plan_in}
use Rattle.tables.specs.declared.spans.Span.{Span}
use Rattle.tables.specs.Spans.{span_at}
use Rattle.choice.specs.Within.{within}
use Rattle.choice.specs.Order.{alone, places, hit_at, AllHit}
use Rattle.choice.proofs.Orders.{none_hit, first_hit, more_hit}
use Rattle.choice.proofs.Choices.{all_placed}
use Rattle.walks.specs.Flags.{known_in}
use Rattle.walks.specs.Queued.{Queued}
use Rattle.walks.proofs.FlagValues.{walked_value}
use Rattle.search.specs.Settled.{Settled}
use Rattle.search.specs.Tried.{Tried, Retried}

pub tried_start : {P : Plan} {n : ℕ} {K : ℕ → Bool} {t : List ℕ} → n ≤ length t → ((s : ℕ) → s < n → get_or t s 0 ≡ 0) → Tried P n K t
tried_start l zeros = record { long = l; hit = λ s k. rw (zeros s k) none_hit }

pub tried_more : {P : Plan} {n : ℕ} {K L : ℕ → Bool} {t : List ℕ} → ((x : ℕ) → K x ≡ true → L x ≡ true) → Tried P n K t → Tried P n L t
tried_more more v = record { long = v.long; hit = λ s k. more_hit more (v.hit s k) }

-- ---- taking a command

-- a choice from the place to go on from is the choice from the first
pub take_first : {P : Plan} (flags : List ℕ) {k from r : ℕ} → AllHit P (known_in flags) 0 k → from ≡ k
    → FirstNot (hit_at P (within flags 0) 0) from (places P 0) r → FirstNot (hit_at P (known_in flags) 0) 0 (places P 0) r
unfolding known_in
take_first flags v e w = first_earlier (λ i l. v.hit i (omega arith)) w

pub retried : {P : Plan} {K : ℕ → Bool} {s r : ℕ} (t t' : List ℕ) → s < length t → FirstNot (hit_at P K 0) 0 (places P 0) r → t' ≡ set t s r
    → Retried P K s t t'
retried {s = s} {r} t t' l v e = record {
  place = rw (e, get_or-set_same t s r 0 l) v;
  others = λ x z. rw e (get_or-set_other t s x r 0 z);
}

-- the command was taken at s, of which q was read
module _ (T : Tables) {K : ℕ → Bool} (s : ℕ) (l : s < T.size.n) (q : Span) (is : q ≡ span_at T s) {t t' : List ℕ}
    (w : Retried (alone (lists_in T) q) K s t t') where
  pub tried_next : length t' ≡ length t → Tried (plan_in T) T.size.n K t → Tried (plan_in T) T.size.n K t'
  tried_next e v = record { long = omega (arith, v.long); hit = λ x k. go x k (ℕ_discrete x s) }
    where
      go : (x : ℕ) → x < T.size.n → Dec (x ≡ s) → AllHit (plan_in T) K x (get_or t' x 0)
      go x k (yes z) = rw z (all_placed T q s l is K (first_hit w.place))
      go x k (no z) = rw (w.others x z) (v.hit x k)

-- ---- the end of a round

-- what was known is not settled, and stays known
pub settled_known : {n q' q : ℕ} {M : ℕ → Bool} {u cs s cs' s' : List ℕ} → Queued n q s u → Settled q' q M u cs s cs' s'
    → (x : ℕ) → known_in s x ≡ true → known_in s' x ≡ true
unfolding known_in
settled_known {u = u} {s = s} L w x t =
    rw (w.kept x (λ i l k e. apart i (leb-true (get_or s x 0) 0 t) e (walked_value s (get_or u i 0) (L.placed i k)))).0 t
  where
    apart : (i : ℕ) → get_or s x 0 ≤ 0 → get_or u i 0 ≡ x → 2 ≤ get_or s (get_or u i 0) 0 → ⊥
    apart i z e h = let two : 2 ≤ get_or s x 0 = rw (← e) h in omega arith
