-- Sound plans (docs/SPECIFICATION.md, rule T6). That the test of SoundTest.antt decides this is proofs/Soundness.antt, `sound_iff`.
use Rattle.std.specs.Prelude.{◌≡◌, List, ℕ, ◌≤◌, length}
use Rattle.laws.specs.Entry.{Bytes}
use Rattle.model.specs.Refusal.{given}
use Rattle.model.specs.File.{Tree, read}
use Rattle.model.specs.Tables.{Tables, Lists, Same, lists_in, tables_of}

-- there is a file that gives the same plan
pub record FromFile (T : Tables) : Type 0 where
  pub file : List ℕ
  pub bytes : Bytes file
  pub tree : Tree
  pub reads : read file ≡ given tree
  pub same : Same T (tables_of tree)

-- no table is too short
pub record LongLists (L : Lists) : Type 0 where
  pub firsts : L.count ≤ length L.firsts
  pub entries : L.end ≤ length L.entries

pub record Long (T : Tables) : Type 0 where
  pub rows : T.size.n ≤ length T.rows
  pub lists : LongLists (lists_in T)

-- rule T6
pub record Sound (T : Tables) : Type 0 where
  pub from_file : FromFile T
  pub long : Long T
