-- A walk under way from a, with the known set K: the queue has the q states that it has reached, the start first, and it has gone on
-- from the first h of them. The flag of a reached state is 2 more than the place of the queue from which it was reached; that of the
-- start is 2.
use Rattle.std.specs.Prelude.{◌≡◌, Bool, true, false, List, ℕ, ◌+◌, ◌<◌, ◌≤◌, get_or}
use Rattle.laws.specs.Entry.{FFFF, entry}
use Rattle.model.specs.Plan.{Plan}
use Rattle.model.specs.Command.{choice}
use Rattle.model.specs.Search.{lands}
use Rattle.walks.specs.Flags.{known_in, walked_in}
use Rattle.walks.specs.Queued.{Queued}

-- y is an outcome of the command taken at place i of the queue, where one is taken
unfoldable pub leads : Plan → (ℕ → Bool) → List ℕ → ℕ → ℕ → Bool
leads P K queue i y = lands P (get_or queue i 0) (choice P K (get_or queue i 0)) y

pub record Underway (P : Plan) (n : ℕ) (K : ℕ → Bool) (a h q : ℕ) (commands flags queue : List ℕ) : Type 0 where
  pub queued : Queued n q flags queue
  pub begun : 0 < q
  pub ahead : h ≤ q
  pub known : (y : ℕ) → y < n → known_in flags y ≡ K y
  pub start : get_or queue 0 0 ≡ a
  pub start_flag_lem : get_or flags a 0 ≡ 2
  -- each further state was reached from an earlier place
  pub from : (i : ℕ) → 0 < i → i < q
      → (j : ℕ) × (j < i) × (j < h) × (get_or flags (get_or queue i 0) 0 ≡ j + 2) × (leads P K queue j (get_or queue i 0) ≡ true)
  -- and from the first place that leads there; closed, but for the places that are still to be gone on from
  pub closed : (j y : ℕ) → j < h → leads P K queue j y ≡ true → (walked_in flags y ≡ true) × (get_or flags y 0 ≤ j + 2)
  pub rising : (i j : ℕ) → i < j → j < q → get_or flags (get_or queue i 0) 0 ≤ get_or flags (get_or queue j 0) 0
  pub took : (i : ℕ) → i < h → get_or commands (get_or queue i 0) 0 ≡ entry (choice P K (get_or queue i 0))
  pub blank : (x : ℕ) → x < n → walked_in flags x ≡ false → get_or commands x 0 ≡ FFFF
