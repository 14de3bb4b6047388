-- The queue of a walk: its first q places hold the reached states below n, each once.
use Rattle.std.specs.Prelude.{◌≡◌, true, List, ℕ, ◌<◌, get_or}
use Rattle.walks.specs.Flags.{walked_in}

pub record Queued (n q : ℕ) (flags queue : List ℕ) : Type 0 where
  pub states : (i : ℕ) → i < q → get_or queue i 0 < n
  pub placed : (i : ℕ) → i < q → walked_in flags (get_or queue i 0) ≡ true
  pub listed : (x : ℕ) → x < n → walked_in flags x ≡ true → (i : ℕ) × (i < q) × (get_or queue i 0 ≡ x)
  pub once : (i j : ℕ) → i < q → j < q → get_or queue i 0 ≡ get_or queue j 0 → i ≡ j
