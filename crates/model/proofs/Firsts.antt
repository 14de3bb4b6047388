-- Where commands begin: the row's entry below the count, and the end from there on.
use mathlib.Core.Path.{◌≡◌}
use Prim.Native.Nat.{ℕ, ◌<◌, ◌≤◌}
use borrow.Author.Tests.{lt-ltb, le-ltb}
use Rattle.model.specs.Tables.{Tables}
use Rattle.model.specs.Places.{row_at, first_command}

module _ (T : Tables) where
  pub command_entry_lem : (s : ℕ) → s < T.size.n → first_command T s ≡ (row_at T s).first
  unfolding first_command
  command_entry_lem s h = rw (lt-ltb s T.size.n h)

  pub command_end : (s : ℕ) → T.size.n ≤ s → first_command T s ≡ T.size.m
  unfolding first_command
  command_end s h = rw (le-ltb s T.size.n h)
