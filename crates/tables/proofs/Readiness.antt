-- The list tables of a sound plan are ready, and where each list is.
use mathlib.Core.Path.{◌≡◌}
use mathlib.Core.Bool.{true}
use mathlib.Core.List.{List}
use Prim.Native.Nat.{ℕ, suc, ◌+◌, ◌-◌, ◌≤◌}
use native.Mathlib.Omega.{arith}
use lib.ListN.{length, length-map}
use Rattle.laws.specs.Rising.{RisesIn}
use Rattle.laws.proofs.Starts.{start_order, start_le}
use Rattle.model.specs.File.{max_states, max_commands, max_outcomes}
use Rattle.model.specs.Tables.{Lists}
use Rattle.model.specs.Places.{start_in}
use Rattle.model.specs.Sound.{LongLists}
use Rattle.model.specs.SoundTest.{sound}
use Rattle.model.proofs.ListTable.{ListFits, ListsFit, lists_ordered}
use Rattle.model.proofs.SoundFacts.{sound_facts}
use Rattle.tables.specs.declared.Row.{Row}
use Rattle.tables.specs.declared.Size.{Size}
use Rattle.tables.specs.Meaning.{held, row_of}
use Rattle.tables.specs.Spans.{commands_of}
use Rattle.tables.specs.Ready.{Ready}

-- a list rises from place to place
list_rises : {least : ℕ} {L : Lists} {i : ℕ} → ListFits least L i → RisesIn L.entries (start_in L i) (start_in L (suc i))
list_rises {L = L} {i = i} f = record {
  next = λ j p q.
      let back : start_in L i + (j - start_in L i) ≡ j = omega arith in
      rw back at (f.sorted (j - start_in L i) (omega arith));
}

-- any list table within the limits that the test passes
pub lists_ready : {least n : ℕ} {L : Lists} → n ≤ max_states → L.count ≤ max_commands → L.end ≤ max_outcomes → LongLists L
    → ListsFit least n L
    → Ready n L
lists_ready few few_commands few-entries long f =
    let rise = (lists_ordered long f).rise in
    record {
      few = few;
      few_commands = few_commands;
      long_firsts = long.firsts;
      parts = record { zero = rise.start; rises = rise.step };
      states = record { few = few-entries; long = long.entries; inside = f.entries };
      rising = λ i h. list_rises (f.lists i h);
    }

pub sound_ready : (size : Size) (rows : List Row) (firsts outcomes : List ℕ) → sound (held size rows firsts outcomes) ≡ true
    → Ready size.n (commands_of size firsts outcomes)
sound_ready size rows firsts outcomes e =
    let f = (sound_facts (held size rows firsts outcomes)).0 e in
    lists_ready f.size.few f.size.few_commands f.size.few_outcomes f.long.lists f.lists

-- its rows are as many as its states
pub sound_rows : (size : Size) (rows : List Row) (firsts outcomes : List ℕ) → sound (held size rows firsts outcomes) ≡ true
    → size.n ≤ length rows
sound_rows size rows firsts outcomes e =
    omega (arith, length-map rows row_of, ((sound_facts (held size rows firsts outcomes)).0 e).long.rows)

-- the places where lists begin rise, and none is past the end of all
module _ {n : ℕ} {L : Lists} (r : Ready n L) where
  pub ready_order : (i j : ℕ) → i ≤ j → j ≤ L.count → start_in L i ≤ start_in L j
  ready_order = start_order L.firsts L.count L.end r.parts

  pub ready_end : (i : ℕ) → i ≤ L.count → start_in L i ≤ L.end
  ready_end = start_le L.firsts L.count L.end r.parts
