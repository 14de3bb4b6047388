-- The file of sound tables: its parts, its length, and what a writing answers and leaves.
use mathlib.Core.Path.{◌≡◌, ap, ◌∙◌}
use mathlib.Core.Bool.{true, false}
use mathlib.Core.List.{List, [], ◌∷◌, ◌++◌}
use Prim.Native.Nat.{ℕ, ◌+◌, ◌<◌, ◌≤◌}
use native.Mathlib.Nat.{zero-add}
use native.Mathlib.Omega.{arith}
use lib.ListN.{length, length-append}
use borrow.Author.Tests.{lt-leb, le-leb}
use Rattle.std.specs.Prelude.{Ok, Err}
use Rattle.laws.specs.Entry.{two}
use Rattle.laws.specs.Lists.{tabulate}
use Rattle.laws.proofs.Lists.{length_tabulate}
use Rattle.laws.proofs.Writes.{put_front}
use Rattle.laws.proofs.Spreads.{front}
use Rattle.model.specs.Refusal.{given, answer, need, ◌>>◌}
use Rattle.model.specs.File.{max_states, max_commands, max_outcomes, head_tag, end_tag}
use Rattle.model.specs.Bytes.{states_bytes, bytes_of}
use Rattle.model.specs.Tables.{Tables, file_length}
use Rattle.model.specs.SoundTest.{sound}
use Rattle.model.specs.Held.{state_at, tree_of}
use Rattle.model.specs.Calls.{left, writing, write_call}
use Rattle.model.proofs.SoundFacts.{sound_facts}
use Rattle.model.proofs.RoundTrips.{written_length}
use Rattle.tables.specs.declared.Refusal.TheVariants.{Unsound, Cramped}
use Rattle.writing.specs.declared.bytes.Output.{Output}
use Rattle.writing.specs.Puts.{Put}
use Rattle.writing.specs.Answers.{after_write}
use Rattle.writing.proofs.Puts.{put_then}
use Rattle.writing.proofs.Spreads.{states_spread}

module _ (T : Tables) where
  abbrev head_bytes : List ℕ
  head_bytes = head_tag ∷ two 4 (two T.size.n (two T.size.start []))

  abbrev all_states : List ℕ
  all_states = states_bytes (tabulate (state_at T) 0 T.size.n) []

  abbrev end_bytes : List ℕ
  end_bytes = end_tag ∷ two 0 []

  file_bytes : bytes_of (tree_of T) ≡ head_bytes ++ (all_states ++ end_bytes)
  unfolding bytes_of tree_of
  file_bytes = rw (length_tabulate (state_at T) 0 T.size.n, front states_spread (tabulate (state_at T) 0 T.size.n) end_bytes)

  pub file_put : {a b c d : Output} → Put a head_bytes b → Put b all_states c → Put c end_bytes d → Put a (bytes_of (tree_of T)) d
  file_put p q r = rw file_bytes (put_then p (put_then q r))

  -- the tests in their order
  pub unsound : (bytes : List ℕ) → sound T ≡ false → after_write (Err Unsound) bytes ≡ write_call T bytes
  unfolding writing need ◌>>◌ answer left
  unsound bytes e = rw e

  module _ (e : sound T ≡ true) where
    pub size_fits : (T.size.n ≤ max_states) × (T.size.m ≤ max_commands) × (T.size.t ≤ max_outcomes) × (T.size.start < max_states)
    size_fits =
        let f = ((sound_facts T).0 e).size in
        (f.few, f.few_commands, f.few_outcomes, omega (arith, f.few, f.starts))

    module _ (bytes : List ℕ) where
      pub cramped : length bytes < file_length T → after_write (Err Cramped) bytes ≡ write_call T bytes
      unfolding writing need ◌>>◌ answer left
      cramped l = rw (e, lt-leb _ _ l)

      module _ (l : file_length T ≤ length bytes) where
        gives : writing T (length bytes) ≡ given (bytes_of (tree_of T))
        unfolding writing need ◌>>◌
        gives = rw (e, le-leb _ _ l)

        pub parts_fit : 7 + length all_states + 3 ≤ length bytes
        parts_fit =
            omega (arith, written_length T (length bytes) (bytes_of (tree_of T)) gives, ap length file_bytes, length-append all_states end_bytes)

        pub written : {a d : Output} {last : List ℕ} → a.bytes.now ≡ bytes → a.place ≡ 0 → Put a (bytes_of (tree_of T)) d → last ≡ d.bytes.now
            → after_write (Ok d.place) last ≡ write_call T bytes
        unfolding answer left
        written i j p e = rw (gives, (rw j at p.past) ∙ zero-add _, e ∙ (rw (i, j) at p.stored) ∙ put_front bytes (bytes_of (tree_of T)) (omega (arith, written_length T (length bytes) (bytes_of (tree_of T)) gives)))
