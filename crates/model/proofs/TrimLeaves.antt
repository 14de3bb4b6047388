-- What trimming leaves where it answers: the trimmed plan, which is sound, and in the first places of another table its map.
use mathlib.Core.Path.{◌≡◌, refl, sym, ap, subst, ◌∙◌}
use mathlib.Core.Bool.{true}
use mathlib.Core.List.{List}
use Prim.Native.Nat.{ℕ, ◌<◌}
use lib.ListN.{length, get_or, take}
use Rattle.laws.proofs.Lists.{take_overwritten, take_written, get_or_taken}
use Rattle.laws.proofs.Parts.{length_heads}
use Rattle.model.specs.Refusal.{given}
use Rattle.model.specs.File.{Tree}
use Rattle.model.specs.Tables.{Size, Row, Tables, Same, all_commands, tables_of}
use Rattle.model.specs.SoundTest.{sound}
use Rattle.model.specs.Held.{tree_of}
use Rattle.model.specs.Calls.{left}
use Rattle.model.specs.Trim.{map_of, trim_tree, trimmed, trimming, trim_call, after_trimming}
use Rattle.model.proofs.Answers.{answer_inv}
use Rattle.model.proofs.Layouts.{by_state_lem, by_command_lem}
use Rattle.model.proofs.SameTables.{held}
use Rattle.model.proofs.GoodTables.{sound_good, good_sound}
use Rattle.model.proofs.TrimmedPlan.{old_number, trim_long}
use Rattle.model.proofs.TrimGood.{trim_good}
use Rattle.model.proofs.TrimCalls.{trimming_iff}

module _ (T : Tables) (rows : List Row) (firsts outcomes olds scratch : List ℕ) where
  -- an answer z, and the tables afterwards
  pub record Trims (z : Size) : Type 0 where
    pub sounds : sound T ≡ true
    pub size : z ≡ (trimmed (tree_of T)).size
    pub same : Same (after_trimming z T rows firsts outcomes olds scratch) (trimmed (tree_of T))
    pub map : take z.n (trim_call T rows firsts outcomes olds scratch).olds ≡ map_of (tree_of T)

  module _ (p : Tree) (e : trimming T (length rows) (length firsts) (length outcomes) (length olds) (length scratch) ≡ given p) where
    after_same : Same (after_trimming (trimmed p).size T rows firsts outcomes olds scratch) (trimmed p)
    unfolding left tables_of
    after_same = rw e (record {
      size = refl;
      rows = take_written (trimmed p).rows rows _ (length_heads by_state_lem 0 (trim_tree p).states);
      lists = record {
        firsts = take_written (trimmed p).firsts firsts _ (length_heads by_command_lem 0 (all_commands (trim_tree p).states));
        entries = take_written (trimmed p).outcomes outcomes _ refl;
      };
    })

    after_map : take (trimmed p).size.n (trim_call T rows firsts outcomes olds scratch).olds ≡ map_of p
    unfolding left tables_of
    after_map = rw e (take_overwritten (length (trim_tree p).states) (map_of p) olds (sym (trim_long p)))

  pub trims : (z : Size) → (trim_call T rows firsts outcomes olds scratch).answers ≡ given z → Trims z
  trims z e =
      let (p, answered, size) = answer_inv (λ (q : Tree). (trimmed q).size) _ z e in
      let a = (trimming_iff T (length rows) (length firsts) (length outcomes) (length olds) (length scratch) p).0 answered in
      let now : trimming T (length rows) (length firsts) (length outcomes) (length olds) (length scratch) ≡ given (tree_of T)
      = answered ∙ ap given (sym a.is) in
      let is : z ≡ (trimmed (tree_of T)).size = sym size ∙ ap (λ (q : Tree). (trimmed q).size) (sym a.is) in
      record {
        sounds = a.sounds;
        size = is;
        same = subst (λ (y : Size). Same (after_trimming y T rows firsts outcomes olds scratch) (trimmed (tree_of T))) (sym is)
            (after_same (tree_of T) now);
        map = subst (λ (y : Size). take y.n (trim_call T rows firsts outcomes olds scratch).olds ≡ map_of (tree_of T)) (sym is)
            (after_map (tree_of T) now);
      }

  module _ (z : Size) (t : Trims z) where
    -- the map by its places
    pub trimmed_old : (i : ℕ) → i < z.n → get_or (trim_call T rows firsts outcomes olds scratch).olds i 0 ≡ old_number (tree_of T) i
    trimmed_old i l = get_or_taken z.n (trim_call T rows firsts outcomes olds scratch).olds (map_of (tree_of T)) i 0 t.map l

    -- the tables hold the trimmed plan, and it is sound
    pub trimmed_tree : tree_of (after_trimming z T rows firsts outcomes olds scratch) ≡ trim_tree (tree_of T)
    trimmed_tree = held _ (trim_tree (tree_of T)) t.same

    pub trimmed_sound : sound (after_trimming z T rows firsts outcomes olds scratch) ≡ true
    trimmed_sound = good_sound _ (trim_tree (tree_of T)) (trim_good (tree_of T) (sound_good T t.sounds)) t.same
