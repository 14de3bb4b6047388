-- What the rounds leave, and what the search leaves.
use Rattle.std.specs.Prelude.{◌≡◌, Bool, true, false, List, ℕ, ◌<◌, get_or}
use Rattle.laws.specs.Entry.{FFFF, entry}
use Rattle.laws.specs.Filled.{Filled}
use Rattle.model.specs.Plan.{Plan}
use Rattle.model.specs.Search.{search}
use Rattle.search.specs.declared.Found.{Found}
use Rattle.search.specs.Past.{Past}

-- the rounds from a are over: where the start is safe the commands are those of the last walk, where it is lost there are none
pub record Rounded (P : Plan) (n a : ℕ) (commands scratch : List ℕ) (r : Found) (commands' scratch' : List ℕ) : Type 0 where
  pub verdict : r.lost ≡ (search P a).lost
  pub counted : r.rounds ≡ (search P a).rounds
  pub safe : r.lost ≡ false → (x : ℕ) → x < n → get_or commands' x 0 ≡ entry ((search P a).command x)
  pub lost : r.lost ≡ true → (x : ℕ) → FFFF ≡ entry ((search P a).command x)
  pub commands_past : Past n commands commands'
  pub scratch_past : Past n scratch scratch'

-- the last words of the search, whose start is lost or not
pub record Finished (n : ℕ) (lost : Bool) (commands scratch commands' scratch' : List ℕ) : Type 0 where
  pub safe : lost ≡ false → commands' ≡ commands
  pub lost_blank : lost ≡ true → Filled n (λ _. FFFF) commands commands'
  pub clean : Filled n (λ _. 0) scratch scratch'

-- the search from a is done
pub record Answered (P : Plan) (n a : ℕ) (commands scratch : List ℕ) (r : Found) (commands' scratch' : List ℕ) : Type 0 where
  pub verdict : r.lost ≡ (search P a).lost
  pub counted : r.rounds ≡ (search P a).rounds
  pub takes : Filled n (λ x. entry ((search P a).command x)) commands commands'
  pub clean : Filled n (λ _. 0) scratch scratch'
