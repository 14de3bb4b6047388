-- The filling of all three tables: what is left to write at each turn over the states.
use mathlib.Core.Path.{◌≡◌, refl, sym, ap, ◌∙◌}
use mathlib.Core.List.{List, [], ◌∷◌}
use Prim.Native.Nat.{ℕ, suc, ◌+◌, ◌-◌, ◌<◌, ◌≤◌}
use native.Mathlib.Omega.{arith}
use native.Mathlib.Nat.{add_assoc}
use lib.ListN.{length, drop, set, length-drop, length-append, length-map}
use lib.Seq.{drop-drop}
use Rattle.laws.specs.Lists.{joined}
use Rattle.laws.specs.Writes.{put_all}
use Rattle.laws.proofs.Joins.{length_joined}
use Rattle.laws.proofs.Writes.{length_put}
use Rattle.model.specs.File.{State, state_from, state_values, max_commands}
use Rattle.model.specs.Tables.{all_commands, row_with, rows_from, firsts_from}
use Rattle.tables.specs.declared.Row.{Row}
use Rattle.tables.specs.Meaning.{row_of, rows_of}
use Rattle.tables.proofs.Filling.{filling_long}
use Rattle.tables.proofs.StatesFilling.{StatesFilling, states_start, rows_long, states_next, states_end}
use Rattle.reading.specs.declared.bytes.Mark.{Mark}
use Rattle.reading.specs.Meaning.{bytes_from, moved}
use Rattle.reading.specs.Filling.{commands_at, commands_length, states_in, states_length, states_mark, past_commands, Room, StatesRoom}

-- the filling of all three tables from the first state on, and the mark that it has come to in the file
pub record Filling (bytes : ℕ) (rows₀ : List Row) (firsts₀ outs₀ : List ℕ) (ss₀ : List State) (rows : List Row) (firsts outs : List ℕ)
    (i : ℕ) (k : Mark) (ss : List State) : Type 0 where
  pub room : StatesRoom bytes (length rows₀) (length firsts₀) (length outs₀) 0 states_mark ss₀
  pub tables : StatesFilling (put_all (rows_of rows₀) 0 (rows_from 0 ss₀)) (put_all firsts₀ 0 (firsts_from 0 (all_commands ss₀)))
      (put_all outs₀ 0 (joined (all_commands ss₀)))
      (0 + length ss₀) (0 + length (all_commands ss₀)) (0 + length (joined (all_commands ss₀))) rows firsts outs i k.m k.t ss
  pub in_file : k.at + states_length ss ≡ states_mark.at + states_length ss₀

module _ {bytes : ℕ} {rows₀ : List Row} {firsts₀ outs₀ : List ℕ} {ss₀ : List State} {rows : List Row} {firsts outs : List ℕ} {i : ℕ}
    {k : Mark} where
  pub filling_same : {ss : List State} → Filling bytes rows₀ firsts₀ outs₀ ss₀ rows firsts outs i k ss
      → (length rows ≡ length rows₀) × (length firsts ≡ length firsts₀) × (length outs ≡ length outs₀)
  filling_same f =
      let (a, b) = filling_long f.tables.lists in (
        rows_long f.tables ∙ length_put (rows_of rows₀) 0 (rows_from 0 ss₀) ∙ length-map rows₀ row_of,
        a ∙ length_put firsts₀ 0 (firsts_from 0 (all_commands ss₀)),
        b ∙ length_put outs₀ 0 (joined (all_commands ss₀)),
      )

  pub filling_over : Filling bytes rows₀ firsts₀ outs₀ ss₀ rows firsts outs i k []
      → (rows_of rows ≡ put_all (rows_of rows₀) 0 (rows_from 0 ss₀))
      × ((firsts ≡ put_all firsts₀ 0 (firsts_from 0 (all_commands ss₀))) × (outs ≡ put_all outs₀ 0 (joined (all_commands ss₀))))
  filling_over f = let (r, p, o) = states_end f.tables in (r, (p, o))

states_in_lem : (file : List ℕ) (k : Mark) (n i : ℕ) → i < n → states_in (n - i) (bytes_from file k)
    ≡ state_from (state_values (bytes_from file k)) (commands_at file k)
    ∷ states_in (n - (i + 1)) (bytes_from file (past_commands (moved k 8) (commands_at file k)))
unfolding states_in
states_in_lem file k n i h =
    let s : List ℕ = bytes_from file k in
    let e : n - i ≡ suc (n - (i + 1)) = omega arith in
    let a : drop 8 s ≡ drop (k.at + 8) file = drop-drop 8 k.at file in
    let cs : List (List ℕ) = commands_at file k in
    let b : drop (8 + commands_length cs) s ≡ drop (k.at + 8 + commands_length cs) file
    = drop-drop (8 + commands_length cs) k.at file ∙ ap (λ (z : ℕ). drop z file) (sym (add_assoc k.at 8 (commands_length cs))) in
    rw (e, a, b)

-- what a turn needs: the state field, the row and the room for the commands
pub record Turn (file : List ℕ) (rows : List Row) (firsts outs : List ℕ) (i : ℕ) (k : Mark) : Type 0 where
  pub some : 7 < length (bytes_from file k)
  pub inside : k.at + 8 ≤ length file
  pub few : k.m ≤ max_commands
  pub row : i < length rows
  pub room : Room (length file) (length firsts) (length outs) (moved k 8) (commands_at file k)

module _ {rows₀ : List Row} {firsts₀ outs₀ : List ℕ} {ss₀ : List State} {rows : List Row} {firsts outs : List ℕ} (file : List ℕ) (n i : ℕ)
    (k : Mark)
    (f : Filling (length file) rows₀ firsts₀ outs₀ ss₀ rows firsts outs i k (states_in (n - i) (bytes_from file k))) where
  pub filling_left : n ≤ i → Filling (length file) rows₀ firsts₀ outs₀ ss₀ rows firsts outs i k []
  unfolding states_in
  filling_left h = let e : n - i ≡ 0 = omega arith in rw e at f

  module _ (h : i < n) where
    here : State
    here = state_from (state_values (bytes_from file k)) (commands_at file k)

    after : List State
    after = states_in (n - (i + 1)) (bytes_from file (past_commands (moved k 8) (commands_at file k)))

    opened : Filling (length file) rows₀ firsts₀ outs₀ ss₀ rows firsts outs i k (here ∷ after)
    unfolding here after
    opened = rw (states_in_lem file k n i h) at f

    pub filling_turn : Turn file rows firsts outs i k
    unfolding here after all_commands
    filling_turn =
        let f = opened in
        let r = f.room in
        let (rows_same, firsts_same, outs_same) = filling_same f in
        let cs : List (List ℕ) = commands_at file k in
        let lm = length-append cs (all_commands after) in
        let lt = length_joined cs (all_commands after) in
        let inside : k.at + 8 + commands_length cs ≤ length file = omega (arith, r.in_file, f.in_file, lm, lt) in
        let few : k.m + length cs ≤ max_commands = omega (arith, r.few_commands, f.tables.lists.in_firsts, lm) in
        record {
          some = omega (arith, length-drop k.at file, inside);
          inside = omega (arith, inside);
          few = omega (arith, few);
          row = omega (arith, r.in_rows, f.tables.in_rows, rows_same);
          room = record {
            in_file = inside;
            in_firsts = omega (arith, r.in_firsts, f.tables.lists.in_firsts, firsts_same, lm);
            in_outcomes = omega (arith, r.in_outcomes, f.tables.lists.in_outs, outs_same, lt);
            few = omega (arith, r.few_outcomes, f.tables.lists.in_outs, lt);
          };
        }

    pub filling_more : {row : Row} {rows' : List Row} {firsts' outs' : List ℕ} {next : Mark}
        → row_of row ≡ row_with k.m (state_values (bytes_from file k))
        → rows' ≡ set rows i row
        → firsts' ≡ put_all firsts k.m (firsts_from k.t (commands_at file k))
        → outs' ≡ put_all outs k.t (joined (commands_at file k))
        → next ≡ past_commands (moved k 8) (commands_at file k)
        → Filling (length file) rows₀ firsts₀ outs₀ ss₀ rows' firsts' outs' (i + 1) next (states_in (n - (i + 1)) (bytes_from file next))
    unfolding here after all_commands
    filling_more r er ef eo en = rw en (record {
      room = opened.room;
      tables = states_next here after opened.tables r er ef eo;
      in_file = omega (
        arith,
        opened.in_file,
        length-append (commands_at file k) (all_commands after),
        length_joined (commands_at file k)
            (all_commands after),
      );
    })

pub filling_begin : {rows : List Row} {firsts outs : List ℕ} (file : List ℕ) (n : ℕ)
    → StatesRoom (length file) (length rows) (length firsts) (length outs) 0 states_mark (states_in n (drop 7 file))
    → Filling (length file) rows firsts outs (states_in n (drop 7 file)) rows firsts outs 0 states_mark
    (states_in (n - 0) (bytes_from file states_mark))
filling_begin {rows} {firsts} {outs} file n r =
    let e : n - 0 ≡ n = omega arith in
    rw e (record { room = r; tables = states_start rows firsts outs 0 0 0 (states_in n (drop 7 file)); in_file = refl })
