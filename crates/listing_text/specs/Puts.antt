-- Where bytes are put, and what putting does.
use Rattle.std.specs.Prelude.{◌≡◌, List, ℕ, ◌+◌, ◌≤◌, length}
use Rattle.laws.specs.Writes.{put_all}
use Rattle.listing_text.specs.declared.Output.{Output}

-- so many places are left
abbrev pub Room : Output → ℕ → Type 0
Room out k = out.place + k ≤ length out.bytes.now

-- the bytes are still those that were lent, as many as before
pub record Lent (before after : Output) : Type 0 where
  pub same : after.bytes.ghost_name ≡ before.bytes.ghost_name
  pub keeps : length after.bytes.now ≡ length before.bytes.now

-- bytes are put at the place, which is past them then; nothing else changes
pub record Put (before : Output) (xs : List ℕ) (after : Output) : Type 0 where
  pub same : after.bytes.ghost_name ≡ before.bytes.ghost_name
  pub keeps : length after.bytes.now ≡ length before.bytes.now
  pub stored : after.bytes.now ≡ put_all before.bytes.now before.place xs
  pub past : after.place ≡ before.place + length xs
