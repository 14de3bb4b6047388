-- The test of soundness decides whether a plan is sound.
use mathlib.Core.Path.{◌≡◌}
use mathlib.Core.Bool.{true}
use mathlib.Core.Logic.{◌↔◌}
use Rattle.model.specs.Bytes.{bytes_of}
use Rattle.model.specs.Tables.{Tables}
use Rattle.model.specs.Sound.{Sound}
use Rattle.model.specs.SoundTest.{sound}
use Rattle.model.specs.Held.{tree_of}
use Rattle.model.proofs.Good.{read_good, bytes_good}
use Rattle.model.proofs.ReadForth.{read_forth}
use Rattle.model.proofs.SoundFacts.{sound_facts}
use Rattle.model.proofs.TablesBack.{tables_back}
use Rattle.model.proofs.GoodTables.{sound_good, good_sound}

pub sound_iff : (T : Tables) → (sound T ≡ true) ↔ Sound T
sound_iff T = (
  λ e.
      let g = sound_good T e in
      record {
        from_file = record {
          file = bytes_of (tree_of T);
          bytes = bytes_good (tree_of T) g;
          tree = tree_of T;
          reads = read_forth (tree_of T) g;
          same = tables_back T e;
        };
        long = ((sound_facts T).0 e).long;
      },
  λ s. let f = s.from_file in good_sound T f.tree (read_good f.file f.tree f.reads) f.same,
)
