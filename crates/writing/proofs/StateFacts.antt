-- A state of sound tables: what is read of it, and its bytes.
use mathlib.Core.Path.{◌≡◌}
use mathlib.Core.Bool.{true}
use mathlib.Core.List.{List, [], ◌∷◌, ◌++◌}
use Prim.Native.Nat.{ℕ, ◌+◌, ◌-◌, ◌<◌, ◌≤◌}
use native.Mathlib.Numerals.{add-one}
use native.Mathlib.Omega.{arith}
use lib.ListN.{length, length-append}
use Rattle.laws.specs.Lists.{tabulate}
use Rattle.laws.proofs.Lists.{length_tabulate}
use Rattle.model.specs.Bytes.{state_bytes, commands_bytes, states_bytes}
use Rattle.model.specs.SoundTest.{sound}
use Rattle.model.specs.Tables.{Tables}
use Rattle.model.specs.Places.{first_command, command_count, field_at, outcomes_at}
use Rattle.model.specs.Held.{state_at}
use Rattle.model.proofs.Good.{practice_fits}
use Rattle.model.proofs.SoundFacts.{sound_facts}
use Rattle.tables.specs.declared.spans.Span.{Span}
use Rattle.tables.specs.Spans.{span_at, field_in}

-- the bytes of the commands that were read of a state
abbrev pub span_commands : Tables → Span → List ℕ
span_commands T q = commands_bytes (tabulate (outcomes_at T) q.first (q.end - q.first)) []

module _ (T : Tables) (s : ℕ) {q : Span} (p : q ≡ span_at T s) where
  pub state_is : states_bytes (state_at T s ∷ []) [] ≡ state_bytes (field_in q) [] ++ span_commands T q
  unfolding states_bytes state_at command_count
  state_is = rw (p, length_tabulate (outcomes_at T) (first_command T s) (command_count T s), add-one s)

  pub state_length : length (states_bytes (state_at T s ∷ []) []) ≡ 8 + length (span_commands T q)
  state_length = rw state_is (length-append (state_bytes (field_in q) []) (span_commands T q))

  -- its commands are in order, and its numbers fit the bytes that hold them
  pub state_fits : sound T ≡ true → s < T.size.n
      → ((q.kind < 256) × (q.first ≤ q.end) × (q.end < 65536) × (q.practice < 65536)) × (q.end ≤ T.size.m)
  unfolding command_count
  state_fits e h =
      let f = (sound_facts T).0 e in
      let few = f.size.few_commands in
      let row = f.rows s h in (
        (
          rw p (omega (arith, row.kinds)),
          rw (p, add-one s) row.rises,
          rw (p, add-one s) (omega (arith, row.below)),
          rw p (practice_fits (field_at T s) (omega (arith, row.below)) row.not_idle_lem),
        ),
        rw (p, add-one s) row.below,
      )
