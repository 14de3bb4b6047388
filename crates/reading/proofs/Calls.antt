-- The call, by the way that it ends.
use mathlib.Core.Path.{◌≡◌, refl, sym, ap, ap₂, ◌∙◌}
use mathlib.Core.Bool.{Bool, true, false, ◌&&◌}
use mathlib.Core.List.{List, ◌∷◌, ◌++◌}
use Prim.Native.Nat.{ℕ, suc, ◌+◌, ◌*◌, ◌/◌, ◌≤◌}
use native.Mathlib.Omega.{arith}
use lib.Dec.{leb}
use lib.ListN.{length, drop, length-drop, length-append, length-map}
use lib.Seq.{drop-drop}
use borrow.Author.Tests.{le-leb, leb-true}
use Rattle.laws.specs.Entry.{be16}
use Rattle.laws.specs.Lists.{joined, overwrite}
use Rattle.laws.specs.Writes.{put_all}
use Rattle.laws.proofs.Joins.{length_joined}
use Rattle.laws.proofs.Parts.{length_heads}
use Rattle.laws.proofs.Tests.{and_both}
use Rattle.laws.proofs.Writes.{put_front}
use Rattle.model.specs.Refusal.{Refusal as ModelRefusal, Answer, Cramped, given, refused, answer, need, ◌>>=◌, ◌>>◌}
use Rattle.model.specs.File.{State, StateField, state_from, Tree, max_commands, max_outcomes, read}
use Rattle.model.specs.Tables.{Size as ModelSize, Row as ModelRow, Tables, enough, all_commands, rows_from, firsts_from, tables_of}
use Rattle.model.specs.Calls.{reading, left, read_call}
use Rattle.tables.specs.declared.Row.{Row}
use Rattle.tables.specs.declared.Size.{Size}
use Rattle.tables.specs.Meaning.{row_of, rows_of, numbers}
use Rattle.model.proofs.Layouts.{by_state_lem, by_command_lem}
use Rattle.model.proofs.Readings.{CommandsRead, StatesRead, none, more, read_inv, few_commands, few_outcomes, states_count}
use Rattle.reading.specs.Filling.{commands_in, commands_length, states_in, states_length, states_mark, StatesRoom}
use Rattle.reading.proofs.Passing.{answer_inv, refused_inv}

-- ---- a file that is read holds its states

commands_stand : {n k t t₁ : ℕ} {s s₁ : List ℕ} {cs : List (List ℕ)} → CommandsRead n k t s cs t₁ s₁
    → (commands_in k s ≡ cs) × (s₁ ≡ drop (commands_length cs) s) × (commands_length cs ≤ length s)
unfolding commands_in joined
commands_stand none = (refl, refl, omega arith)
commands_stand (more {k} {s} {os} {cs} c r) =
    let (a, b, l) = commands_stand r in
    let long : be16 s 1 ≡ length os * 2 = c.framed.long in
    let half : be16 s 1 / 2 ≡ length os = omega arith in
    let e = length-append os (joined cs) in
    let d : 3 + length os * 2 + commands_length cs ≡ suc (length cs) * 3 + length (os ++ joined cs) * 2 = omega arith in (
      rw half (ap₂ (λ (x : List ℕ) (y : List (List ℕ)). x ∷ y) c.are a),
      b ∙ drop-drop (commands_length cs) (3 + length os * 2) s ∙ ap (λ (z : ℕ). drop z s) d,
      omega (arith, length-drop (3 + length os * 2) s, c.framed.fits),
    )

states_stand : {n k m t : ℕ} {s s₁ : List ℕ} {ss : List State} → StatesRead n k m t s ss s₁
    → (states_in k s ≡ ss) × (states_length ss ≤ length s)
unfolding states_in all_commands joined
states_stand none = (refl, omega arith)
states_stand (more {k} {q} {s} {s₁} {cs} {ss} g c r) =
    let (a, b, l) = commands_stand c in
    let (d, i) = states_stand r in
    let lm = length-append cs (all_commands ss) in
    let lt = length_joined cs (all_commands ss) in
    let at : drop (8 + commands_length cs) s ≡ s₁ = sym (b ∙ drop-drop (commands_length cs) 8 s) in (
      ap (λ (v : StateField). let xs = commands_in v.count (drop 8 s) in state_from v xs ∷ states_in k (drop (8 + commands_length xs) s))
          g.is
          ∙ rw (a, at) (ap (λ (z : List State). state_from q cs ∷ z) d),
      omega (arith, g.framed.fits, length-drop 8 s, ap length b, length-drop (commands_length cs) (drop 8 s)),
    )

-- ---- the call

abbrev pub size_of : Tree → ModelSize
size_of p = (tables_of p).size

module _ (file : List ℕ) (rows : List Row) (firsts outs : List ℕ) where
  -- after a refusal each table is as it was
  pub unchanged : {r : ModelRefusal} → reading (length rows) (length firsts) (length outs) file ≡ refused r
      → record { answers = refused r; rows = rows_of rows; firsts = firsts; outcomes = outs } ≡ read_call file (rows_of rows) firsts outs
  unfolding answer left
  unchanged e = rw (length-map rows row_of, e) refl

  -- after an answer each begins with what was read
  written : (T : Tables) → reading (length rows) (length firsts) (length outs) file ≡ given T
      → record {
        answers = given T.size;
        rows = overwrite T.rows (rows_of rows);
        firsts = overwrite T.firsts firsts;
        outcomes =
            overwrite T.outcomes outs;
      }
      ≡ read_call file (rows_of rows) firsts outs
  unfolding answer left
  written T e = rw (length-map rows row_of, e) refl

pub no_plan : (R F O : ℕ) (file : List ℕ) {r : ModelRefusal} → answer size_of (read file) ≡ refused r → reading R F O file ≡ refused r
unfolding reading ◌>>=◌
no_plan R F O file e = rw (refused_inv size_of (read file) e)

module _ (file : List ℕ) (z : ModelSize) (e : answer size_of (read file) ≡ given z) where
  plan : (p : Tree) × (read file ≡ given p) × (size_of p ≡ z)
  plan = answer_inv size_of (read file) e

  module _ (R F O : ℕ) where
    opened : reading R F O file ≡ (need Cramped (enough z R F O) >> given (tables_of plan.0))
    unfolding reading ◌>>=◌
    opened =
        let (p, i, j) = plan in
        ap (λ (x : Answer Tree). x >>= λ q. need Cramped (enough (size_of q) R F O) >> given (tables_of q)) i
        ∙ ap (λ (y : ModelSize). need Cramped (enough y R F O) >> given (tables_of p)) j

    short : enough z R F O ≡ false → reading R F O file ≡ refused Cramped
    unfolding need ◌>>◌
    short h = opened ∙ rw h

    roomy : z.n ≤ R → z.m ≤ F → z.t ≤ O → reading R F O file ≡ given (tables_of plan.0)
    unfolding need ◌>>◌
    roomy a b c = opened ∙ rw (le-leb _ _ a, le-leb _ _ b, le-leb _ _ c)

  -- the states stand in the file, as many as the size record counts
  record Stands (ss : List State) : Type 0 where
    is : states_in z.n (drop 7 file) ≡ ss
    rows : length ss ≡ z.n
    firsts : length (all_commands ss) ≡ z.m
    outcomes : length (joined (all_commands ss)) ≡ z.t
    room : {R F O : ℕ} → z.n ≤ R → z.m ≤ F → z.t ≤ O → StatesRoom (length file) R F O 0 states_mark ss

  stands : Stands plan.0.states
  unfolding tables_of
  stands =
      let (p, i, j) = plan in
      let r = read_inv file p i in
      let (a, l) = states_stand r.stated in
      let n : length p.states ≡ z.n = ap (λ (y : ModelSize). y.n) j in
      let m : length (all_commands p.states) ≡ z.m = ap (λ (y : ModelSize). y.m) j in
      let t : length (joined (all_commands p.states)) ≡ z.t = ap (λ (y : ModelSize). y.t) j in
      let counts : r.n ≡ z.n = sym (states_count r.stated) ∙ n in
      let few_m : 0 + length (all_commands p.states) ≤ max_commands = few_commands r.stated (omega arith) in
      let few_t : 0 + length (joined (all_commands p.states)) ≤ max_outcomes = few_outcomes r.stated (omega arith) in
      let fits : 7 ≤ length file = r.headed.framed.fits in
      let d = length-drop 7 file in
      record {
        is = ap (λ (y : ℕ). states_in y (drop 7 file)) (sym counts) ∙ a;
        rows = n;
        firsts = m;
        outcomes = t;
        room = λ x y w. record {
          in_file = omega arith;
          in_rows = omega arith;
          in_firsts = omega arith;
          in_outcomes = omega arith;
          few_commands = few_m;
          few_outcomes = few_t;
        };
      }

  pub room : {R F O : ℕ} → z.n ≤ R → z.m ≤ F → z.t ≤ O → StatesRoom (length file) R F O 0 states_mark (states_in z.n (drop 7 file))
  room a b c = rw stands.is (stands.room a b c)

  pub filled : (rows : List Row) (firsts outs : List ℕ) {rows' : List ModelRow} {firsts' outs' : List ℕ}
      → z.n ≤ length rows → z.m ≤ length firsts → z.t ≤ length outs
      → rows' ≡ put_all (rows_of rows) 0 (rows_from 0 (states_in z.n (drop 7 file)))
      → firsts' ≡ put_all firsts 0 (firsts_from 0 (all_commands (states_in z.n (drop 7 file))))
      → outs' ≡ put_all outs 0 (joined (all_commands (states_in z.n (drop 7 file))))
      → record { answers = given z; rows = rows'; firsts = firsts'; outcomes = outs' } ≡ read_call file (rows_of rows) firsts outs
  unfolding tables_of
  filled rows firsts outs {rows'} {firsts'} {outs'} a b c er ef eo =
      let ss : List State = plan.0.states in
      let t = stands in
      let in_rows : rows' ≡ overwrite (rows_from 0 ss) (rows_of rows)
      = er ∙ ap (λ (y : List State). put_all (rows_of rows) 0 (rows_from 0 y)) t.is
      ∙ put_front (rows_of rows) (rows_from 0 ss) (omega (arith, t.rows, length_heads by_state_lem 0 ss, length-map rows row_of)) in
      let in_firsts : firsts' ≡ overwrite (firsts_from 0 (all_commands ss)) firsts
      = ef ∙ ap (λ (y : List State). put_all firsts 0 (firsts_from 0 (all_commands y))) t.is
      ∙ put_front firsts (firsts_from 0 (all_commands ss)) (omega (arith, t.firsts, length_heads by_command_lem 0 (all_commands ss))) in
      let in_outs : outs' ≡ overwrite (joined (all_commands ss)) outs
      = eo ∙ ap (λ (y : List State). put_all outs 0 (joined (all_commands y))) t.is
      ∙ put_front outs (joined (all_commands ss)) (omega (arith, t.outcomes)) in
      (λ i. record { answers = given (sym plan.2 i); rows = in_rows i; firsts = in_firsts i; outcomes = in_outs i })
      ∙ written file rows firsts outs (tables_of plan.0) (roomy (length rows) (length firsts) (length outs) a b c)

-- ---- the test of the tables' lengths

module _ (z : Size) (R F O : ℕ) {t : Bool} (e : t ≡ enough (numbers z) R F O) where
  pub cramped : (file : List ℕ) → answer size_of (read file) ≡ given (numbers z) → t ≡ false → reading R F O file ≡ refused Cramped
  cramped file p h = short file (numbers z) p R F O (sym e ∙ h)

  pub all_long : t ≡ true → (z.n ≤ R) × (z.m ≤ F) × (z.t ≤ O)
  all_long h =
      let three = and_both (leb z.n R && leb z.m F) _ (sym e ∙ h) in
      let two = and_both (leb z.n R) _ three.0 in
      (leb-true _ _ two.0, leb-true _ _ two.1, leb-true _ _ three.1)
