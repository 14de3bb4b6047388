-- The filling of commands with their outcomes: what is left to write at each turn.
use mathlib.Core.Path.{◌≡◌, refl, sym, ap, ◌∙◌}
use mathlib.Core.List.{List, [], ◌∷◌, ◌++◌}
use Prim.Native.Nat.{ℕ, zero, suc, ◌+◌, ◌-◌, ◌*◌, ◌/◌, ◌<◌, ◌≤◌}
use native.Mathlib.Omega.{arith}
use native.Mathlib.Nat.{add-zero, add_assoc}
use lib.ListN.{length, drop, set, length-drop, length-append}
use lib.Seq.{drop-drop}
use Rattle.laws.specs.Entry.{be16}
use Rattle.laws.specs.Lists.{joined}
use Rattle.laws.specs.Writes.{put_all}
use Rattle.laws.proofs.Writes.{length_put}
use Rattle.model.specs.File.{max_outcomes, entries}
use Rattle.model.specs.Tables.{firsts_from}
use Rattle.model.proofs.Fields.{length_entries}
use Rattle.tables.proofs.Filling.{Filling as Fills, filling_start, filling_long, filling_next, filling_end}
use Rattle.reading.specs.declared.bytes.Mark.{Mark}
use Rattle.reading.specs.Meaning.{bytes_from}
use Rattle.reading.specs.Filling.{commands_in, commands_length, past_commands, Room}

-- the filling of both tables that began at the mark k₀, and the mark that it has come to in the file
pub record Filling (bytes : ℕ) (firsts₀ outs₀ : List ℕ) (k₀ : Mark) (cs₀ : List (List ℕ)) (firsts outs : List ℕ) (k : Mark)
    (cs : List (List ℕ)) : Type 0 where
  pub room : Room bytes (length firsts₀) (length outs₀) k₀ cs₀
  pub lists : Fills (put_all firsts₀ k₀.m (firsts_from k₀.t cs₀)) (put_all outs₀ k₀.t (joined cs₀)) (k₀.m + length cs₀)
      (k₀.t + length (joined cs₀))
      firsts outs k.m k.t cs
  pub in_file : k.at + commands_length cs ≡ k₀.at + commands_length cs₀

module _ {bytes : ℕ} {firsts₀ outs₀ : List ℕ} {k₀ : Mark} {cs₀ : List (List ℕ)} {firsts outs : List ℕ} {k : Mark} where
  filling_same : {cs : List (List ℕ)} → Filling bytes firsts₀ outs₀ k₀ cs₀ firsts outs k cs → (length firsts ≡ length firsts₀)
      × (length outs ≡ length outs₀)
  filling_same f =
      let (a, b) = filling_long f.lists in
      (a ∙ length_put firsts₀ k₀.m (firsts_from k₀.t cs₀), b ∙ length_put outs₀ k₀.t (joined cs₀))

  filling_one : {os : List ℕ} {cs : List (List ℕ)} (c : ℕ) → Filling bytes firsts₀ outs₀ k₀ cs₀ firsts outs k (os ∷ cs) → length os ≡ c
      → {outs' : List ℕ} → outs' ≡ put_all outs k.t os
      → Filling bytes firsts₀ outs₀ k₀ cs₀ (set firsts k.m k.t) outs'
      (record { at = k.at + (3 + c * 2); m = k.m + 1; t = k.t + c }) cs
  unfolding joined
  filling_one {os} {cs} c f e o = record {
    room = f.room;
    lists = rw e at (filling_next os cs f.lists o);
    in_file = omega (arith, e, f.in_file, length-append os (joined cs));
  }

  pub filling_over : Filling bytes firsts₀ outs₀ k₀ cs₀ firsts outs k []
      → (firsts ≡ put_all firsts₀ k₀.m (firsts_from k₀.t cs₀))
      × ((outs ≡ put_all outs₀ k₀.t (joined cs₀)) × (k ≡ past_commands k₀ cs₀))
  unfolding joined
  filling_over f =
      let (p, o, m, t) = filling_end f.lists in
      let at : k.at ≡ k₀.at + commands_length cs₀ = sym (add-zero k.at) ∙ f.in_file in
      (p, (o, λ i. record { at = at i; m = m i; t = t i }))

-- the mark past the outcomes that are left of a command, and the table with them
abbrev pub ahead : (at m t left : ℕ) → Mark
ahead at m t left = record { at = at + left * 2; m = m; t = t + left }

abbrev pub written : (file outs : List ℕ) (at t left : ℕ) → List ℕ
written file outs at t left = put_all outs t (entries left (drop at file))

-- a filling with outcomes left to write: past them it is the filling from there
pub record Underway (file firsts₀ outs₀ : List ℕ) (k₀ : Mark) (cs₀ : List (List ℕ)) (end : ℕ) (firsts outs : List ℕ) (at m t left : ℕ)
    : Type 0 where
  pub past : Filling (length file) firsts₀ outs₀ k₀ cs₀ firsts (written file outs at t left) (ahead at m t left)
      (commands_in (end - m) (bytes_from file (ahead at m t left)))

commands_in_lem : (s : List ℕ) (end m : ℕ) → m < end
    → commands_in (end - m) s ≡ entries (be16 s 1 / 2) (drop 3 s) ∷ commands_in (end - (m + 1)) (drop (3 + be16 s 1 / 2 * 2) s)
unfolding commands_in
commands_in_lem s end m h = let e : end - m ≡ suc (end - (m + 1)) = omega arith in rw e

pub commands_in_count : (k : ℕ) (s : List ℕ) → length (commands_in k s) ≡ k
unfolding commands_in
commands_in_count zero s = refl
commands_in_count (suc k) s = ap suc (commands_in_count k (drop (3 + be16 s 1 / 2 * 2) s))

-- what the beginning of a command needs: the size field, and a place
pub record Turn (file firsts : List ℕ) (k : Mark) : Type 0 where
  pub some : 2 < length (bytes_from file k)
  pub low : k.m < length firsts
  pub few : k.t + be16 (bytes_from file k) 1 / 2 ≤ max_outcomes
  pub inside : k.at + (3 + be16 (bytes_from file k) 1 / 2 * 2) ≤ length file

module _ {firsts₀ outs₀ : List ℕ} {k₀ : Mark} {cs₀ : List (List ℕ)} {firsts outs : List ℕ} (file : List ℕ) (k : Mark) (end : ℕ)
    (f : Filling (length file) firsts₀ outs₀ k₀ cs₀ firsts outs k (commands_in (end - k.m) (bytes_from file k))) where
  pub filling_left : end ≤ k.m → Filling (length file) firsts₀ outs₀ k₀ cs₀ firsts outs k []
  unfolding commands_in
  filling_left h = let e : end - k.m ≡ 0 = omega arith in rw e at f

  module _ (h : k.m < end) where
    opened : Filling (length file) firsts₀ outs₀ k₀ cs₀ firsts outs k
        (entries (be16 (bytes_from file k) 1 / 2) (drop 3 (bytes_from file k))
        ∷ commands_in (end - (k.m + 1)) (drop (3 + be16 (bytes_from file k) 1 / 2 * 2) (bytes_from file k)))
    opened = rw (commands_in_lem (bytes_from file k) end k.m h) at f

    pub filling_turn : Turn file firsts k
    unfolding joined
    filling_turn =
        let r = opened.room in
        let left = opened.lists in
        let same = filling_same opened in
        let c = be16 (bytes_from file k) 1 / 2 in
        let os : List ℕ = entries c (drop 3 (bytes_from file k)) in
        let cs : List (List ℕ) = commands_in (end - (k.m + 1)) (drop (3 + c * 2) (bytes_from file k)) in
        let l : length (os ++ joined cs) ≡ c + length (joined cs)
        = length-append os (joined cs) ∙ ap (λ (z : ℕ). z + length (joined cs)) (length_entries c (drop 3 (bytes_from file k))) in
        let inside : k.at + (3 + c * 2) ≤ length file = omega (arith, r.in_file, opened.in_file) in
        record {
          some = omega (arith, length-drop k.at file);
          low = omega (arith, r.in_firsts, left.in_firsts, same.0);
          few = omega (arith, r.few, left.in_outs);
          inside = inside;
        }

    pub filling_more : {c : ℕ} {firsts' : List ℕ} → c ≡ be16 (bytes_from file k) 1 / 2 → firsts' ≡ set firsts k.m k.t
        → Underway file firsts₀ outs₀ k₀ cs₀ end firsts' outs (k.at + 3) (k.m + 1) k.t c
    filling_more {c} e p =
        let a : drop (3 + c * 2) (bytes_from file k) ≡ drop (k.at + (3 + c * 2)) file = drop-drop (3 + c * 2) k.at file in
        let b : drop 3 (bytes_from file k) ≡ drop (k.at + 3) file = drop-drop 3 k.at file in
        record {
          past = rw (p, add_assoc k.at 3 (c * 2))
              (filling_one c (rw (← e, a, b) at opened) (length_entries c (drop (k.at + 3) file)) refl);
        }

pub filling_all : (count m : ℕ) (s : List ℕ) → commands_in (m + count - m) s ≡ commands_in count s
filling_all count m s = let e : m + count - m ≡ count = omega arith in rw e

pub filling_begin : {firsts outs : List ℕ} (file : List ℕ) (k : Mark) (count : ℕ)
    → Room (length file) (length firsts) (length outs) k (commands_in count (bytes_from file k))
    → let cs : List (List ℕ) = commands_in (k.m + count - k.m) (bytes_from file k) in Filling (length file) firsts outs k cs firsts outs k
    cs
filling_begin {firsts} {outs} file k count r =
    rw (filling_all count k.m (bytes_from file k))
    (record { room = r; lists = filling_start firsts outs k.m k.t (commands_in count (bytes_from file k)); in_file = refl })

-- what the writing of an outcome needs
pub record Place (file outs : List ℕ) (at t : ℕ) : Type 0 where
  pub inside : at + 2 ≤ length file
  pub some : 1 < length (drop at file)
  pub place : t < length outs

module _ {file firsts₀ outs₀ : List ℕ} {k₀ : Mark} {cs₀ : List (List ℕ)} {end : ℕ} {firsts outs : List ℕ} {at m t left : ℕ}
    (u : Underway file firsts₀ outs₀ k₀ cs₀ end firsts outs at m t left) where
  pub underway_same : (length firsts ≡ length firsts₀) × (length outs ≡ length outs₀)
  underway_same =
      let (a, b) = filling_same u.past in (a, sym (length_put outs t (entries left (drop at file))) ∙ b)

  -- no outcome is left
  pub underway_none : left ≡ 0 → Filling (length file) firsts₀ outs₀ k₀ cs₀ firsts outs (record { at = at; m = m; t = t })
      (commands_in (end - m) (drop at file))
  unfolding put_all entries
  underway_none e = rw (add-zero at, add-zero t) at (rw e at u.past)

  module _ (h : left ≡ 0 → ⊥) where
    pub underway_place : Place file outs at t
    underway_place =
        let f = u.past in
        let r = f.room in
        let same = underway_same in
        let inside : at + 2 ≤ length file = omega (arith, h, r.in_file, f.in_file) in
        record {
          inside = inside;
          some = omega (arith, inside, length-drop at file);
          place = omega (arith, h, r.in_outcomes, f.lists.in_outs, same.1);
        }

    -- one outcome is written
    pub underway_one : {o : ℕ} → o ≡ be16 (drop at file) 0
        → Underway file firsts₀ outs₀ k₀ cs₀ end firsts (set outs t o) (at + 2) m (t + 1) (left - 1)
    unfolding put_all entries
    underway_one {o} e =
        let l : left ≡ suc (left - 1) = omega (arith, h) in
        let w : written file outs at t left ≡ written file (set outs t o) (at + 2) (t + 1) (left - 1)
        = ap (written file outs at t) l ∙ (rw (e, ← drop-drop 2 at file) refl) in
        let a : at + left * 2 ≡ at + 2 + (left - 1) * 2 = omega (arith, l) in
        let b : t + left ≡ t + 1 + (left - 1) = omega (arith, l) in
        record { past = rw (w, a, b) at u.past }

-- the filling at a mark, as one under way
pub underway_at : {file firsts₀ outs₀ : List ℕ} {k₀ : Mark} {cs₀ : List (List ℕ)} {firsts outs : List ℕ} (end at m t : ℕ)
    → Filling (length file) firsts₀ outs₀ k₀ cs₀ firsts outs (record { at = at; m = m; t = t }) (commands_in (end - m) (drop at file))
    → Underway file firsts₀ outs₀ k₀ cs₀ end firsts outs at m t 0
unfolding put_all entries
underway_at end at m t f = record { past = rw (add-zero at, add-zero t) f }
