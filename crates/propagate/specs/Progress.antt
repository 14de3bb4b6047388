-- How far the propagation has come, and what each part of it does to the tables. Each state watches one command that counts, the first
-- that has no outcome in the layers so far; a state whose watched commands run out is lost, and waits in the queue.
use Rattle.std.specs.Prelude.{◌≡◌, Bool, true, not, ◌&&◌, List, ℕ, ◌+◌, ◌≤◌, ◌<◌, eqb, leb, length, get_or}
use Rattle.laws.specs.Entry.{FFFF}
use Rattle.laws.specs.Sets.{exists, how_many}
use Rattle.model.specs.Tables.{Lists}
use Rattle.choice.specs.Within.{within, command_hits}
use Rattle.propagate.specs.Net.{Net, net_of, from, to, losing, net_layer, Owns}

-- the tables that are written, and where the queue ends
pub record Progress : Type 0 where
  pub ranks : List ℕ
  pub watch : List ℕ
  pub queue : List ℕ
  pub end : ℕ

abbrev pub progress : List ℕ → List ℕ → List ℕ → ℕ → Progress
progress ranks watch queue end = record { ranks = ranks; watch = watch; queue = queue; end = end }

-- the tables have a place for each of n states
pub record Room (n : ℕ) (ranks watch queue : List ℕ) : Type 0 where
  pub for_ranks : n ≤ length ranks
  pub for_watch : n ≤ length watch
  pub for_queue : n ≤ length queue

-- how many of the first n states have a rank
unfoldable pub rank_count : ℕ → List ℕ → ℕ
rank_count n ranks = how_many (λ s. not (eqb (get_or ranks s 0) FFFF)) n

-- the queue has states, and no more than have a rank
pub record QueueBound (n : ℕ) (X : Progress) : Type 0 where
  pub few : X.end ≤ rank_count n X.ranks
  pub states : (i : ℕ) → i < X.end → get_or X.queue i 0 < n

-- s watches the command c: those before it have an outcome in A, and if it has one too, it is among those still to be looked at, G
pub record Watch (N : Net) (A G : ℕ → Bool) (s c : ℕ) : Type 0 where
  pub since : from N s ≤ c
  pub until : from N s < to N s → c < to N s
  pub before : (i : ℕ) → from N s ≤ i → i < c → i < to N s → command_hits N.commands A i ≡ true
  pub pending : c < to N s → command_hits N.commands A c ≡ true → G c ≡ true

-- On the way from layers 0 to k of what K gives to layer k + 1. G has the commands still to be looked at, and those of rank k + 1
-- are in the queue from hi on.
pub record TowardsLayer (N : Net) (K : ℕ → Bool) (k hi : ℕ) (G : ℕ → Bool) (X : Progress) : Type 0 where
  pub ranked : (j s : ℕ) → j ≤ k → s < N.states → within X.ranks j s ≡ net_layer N K j s
  pub fresh : (s : ℕ) → s < N.states → k < get_or X.ranks s 0 → (get_or X.ranks s 0 ≡ FFFF → ⊥)
      → (get_or X.ranks s 0 ≡ k + 1) × (losing N (net_layer N K k) s ≡ true)
  pub watches : (s : ℕ) → s < N.states → get_or X.ranks s 0 ≡ FFFF → Watch N (net_layer N K k) G s (get_or X.watch s 0)
  pub queued : (s : ℕ) → s < N.states → get_or X.ranks s 0 ≡ k + 1 → (i : ℕ) × (hi ≤ i) × (i < X.end) × (get_or X.queue i 0 ≡ s)

-- The commands of which Done holds are looked at. The first commands of the ranges are not in the tables any more, so the way to the next
-- layer is told for all that it may have begun with.
pub record Moved (n : ℕ) (C : Lists) (tos owner : List ℕ) (k : ℕ) (Done : ℕ → Type 0) (X Y : Progress) : Type 0 where
  pub towards : (froms : List ℕ) (K G G' : ℕ → Bool) (hi : ℕ) → hi ≤ X.end → Owns (net_of n C froms tos) owner
      → ((c : ℕ) → c < C.count → G c ≡ true → (Done c → ⊥) → G' c ≡ true) → TowardsLayer (net_of n C froms tos) K k hi G X
      → TowardsLayer (net_of n C froms tos) K k hi G' Y
  pub bound : QueueBound (n) Y
  pub kept : (i : ℕ) → i < X.end → get_or Y.queue i 0 ≡ get_or X.queue i 0
  pub rest : (i : ℕ) → n ≤ i → get_or Y.ranks i 0 ≡ get_or X.ranks i 0
  pub more : X.end ≤ Y.end

-- the command c stands in users from a on, below e
pub record Among (users : List ℕ) (a e c : ℕ) : Type 0 where
  pub place : ℕ
  pub since : a ≤ place
  pub below : place < e
  pub stands : get_or users place 0 ≡ c

-- o is in the queue from lo on, below hi
unfoldable pub waiting : List ℕ → ℕ → ℕ → ℕ → Bool
waiting queue lo hi o = exists (λ i. leb lo i && eqb (get_or queue i 0) o) hi

-- between layers: layers 0 to k have their ranks, and the queue from lo on has all states of rank k
pub record AtLayer (N : Net) (K : ℕ → Bool) (k lo : ℕ) (X : Progress) : Type 0 where
  pub low : (s : ℕ) → s < N.states → (get_or X.ranks s 0 ≡ FFFF → ⊥) → get_or X.ranks s 0 ≤ k
  pub towards : TowardsLayer N K k X.end (command_hits N.commands (waiting X.queue lo X.end)) X

-- layer k + 1 has its ranks too
pub record Layered (n : ℕ) (C : Lists) (tos owner : List ℕ) (k lo : ℕ) (X Y : Progress) : Type 0 where
  pub at_layer : (froms : List ℕ) (K : ℕ → Bool) → Owns (net_of n C froms tos) owner → AtLayer (net_of n C froms tos) K k lo X
      → AtLayer (net_of n C froms tos) K (k + 1) X.end Y
  pub bound : QueueBound (n) Y
  pub rest : (i : ℕ) → n ≤ i → get_or Y.ranks i 0 ≡ get_or X.ranks i 0
  pub more : X.end ≤ Y.end

-- the states of rank 0 below s are in the queue
pub record SeedsQueued (ranks queue : List ℕ) (s end : ℕ) : Type 0 where
  pub few : end ≤ rank_count s ranks
  pub states : (i : ℕ) → i < end → get_or queue i 0 < s
  pub found : (u : ℕ) → u < s → get_or ranks u 0 ≡ 0 → (i : ℕ) × (i < end) × (get_or queue i 0 ≡ u)
