-- What it means that trimming is answered, of the tables that it leaves.
use mathlib.Core.Path.{◌≡◌, refl, sym, ap, subst, subst₂, ◌∙◌}
use mathlib.Core.List.{List}
use Prim.Native.Nat.{ℕ, ◌<◌, ◌≤◌}
use native.Mathlib.Omega.{arith}
use lib.ListN.{length, get_or, take, drop, length-append, take-append-drop}
use Rattle.laws.specs.Lists.{tabulate}
use Rattle.model.specs.Refusal.{given, answer}
use Rattle.model.specs.File.{Tree}
use Rattle.model.specs.Tables.{Size, Row, Tables, Same, tables_of}
use Rattle.model.specs.Held.{tree_of, plan_of, plan_in}
use Rattle.model.specs.Calls.{decide_call}
use Rattle.model.specs.Demand3.{read_entry}
use Rattle.model.specs.Trim.{map_of, trim_tree, trimmed, trim_call, after_trimming}
use Rattle.model.specs.Trimmed.{Keeps, Trimmed}
use Rattle.model.proofs.Good.{Good}
use Rattle.model.proofs.HeldPlan.{states_held}
use Rattle.model.proofs.SameSound.{same_back, same_on}
use Rattle.model.proofs.TablesBack.{tables_back}
use Rattle.model.proofs.GoodTables.{sound_good}
use Rattle.model.proofs.Soundness.{sound_iff}
use Rattle.model.proofs.Delivered.{entries_read}
use Rattle.model.proofs.TrimmedPlan.{trim_long}
use Rattle.model.proofs.TrimGood.{NoLarger, trim_no_larger}
use Rattle.model.proofs.TrimKeeps.{trim_keeps}
use Rattle.model.proofs.TrimAgain.{trim_again, map_again}
use Rattle.model.proofs.TrimCalls.{trimming_iff}
use Rattle.model.proofs.TrimLeaves.{Trims, trims, trimmed_old, trimmed_tree, trimmed_sound}

-- where a plan keeps what it has of another, deciding leaves the same ranks and commands
module _ (T U : Tables) (old : ℕ → ℕ) (k : Keeps (plan_in T) (plan_in U) old) where
  kept_entries : (ranks commands marks scratch ranks' commands' marks' scratch' : List ℕ) (counts counts' : List (List ℕ))
      → let D = decide_call T ranks commands marks scratch in
      let E = decide_call U ranks' commands' marks' scratch' in
      D.answers ≡ given counts → E.answers ≡ given counts' → (i : ℕ) → i < U.size.n
      → (read_entry E.ranks i ≡ read_entry D.ranks (old i)) × (read_entry E.commands i ≡ read_entry D.commands (old i))
  kept_entries ranks commands marks scratch ranks' commands' marks' scratch' counts counts' d e i l =
      let inside : i < (plan_in U).states = rw (states_held U) l in
      let old_inside : old i < T.size.n = omega (arith, k.inside i inside, states_held T) in
      let (new_rank, new_choice) = entries_read U ranks' commands' marks' scratch' counts' e i l in
      let (old_rank, old_choice) = entries_read T ranks commands marks scratch counts d (old i) old_inside in
      (new_rank ∙ k.ranks i inside ∙ sym old_rank, new_choice ∙ k.choices i inside ∙ sym old_choice)

module _ (T : Tables) (rows : List Row) (firsts outcomes olds scratch : List ℕ) (z : Size)
    (answered : (trim_call T rows firsts outcomes olds scratch).answers ≡ given z) where
  t : Trims T rows firsts outcomes olds scratch z
  t = trims T rows firsts outcomes olds scratch z answered

  good : Good (tree_of T)
  good = sound_good T t.sounds

  -- the plan and the map that are left
  abbrev U : Tables
  U = after_trimming z T rows firsts outcomes olds scratch

  abbrev old : ℕ → ℕ
  old i = get_or (trim_call T rows firsts outcomes olds scratch).olds i 0

  tree : tree_of U ≡ trim_tree (tree_of T)
  tree = trimmed_tree T rows firsts outcomes olds scratch z t

  keeps : Keeps (plan_in T) (plan_in U) old
  unfolding plan_in tables_of
  keeps =
      let count : z.n ≡ length (trim_tree (tree_of T)).states = ap (λ (y : Size). y.n) t.size in
      subst (λ (q : Tree). Keeps (plan_of (tree_of T)) (plan_of q) old) (sym tree)
      (trim_keeps (tree_of T) good old (λ i l. trimmed_old T rows firsts outcomes olds scratch z t i (omega (arith, count))))

  no_larger : NoLarger z T.size
  no_larger = subst₂ NoLarger (sym t.size) (sym (tables_back T t.sounds).size) (trim_no_larger (tree_of T))

  map_long : z.n ≤ length (trim_call T rows firsts outcomes olds scratch).olds
  unfolding tables_of
  map_long =
      let after = (trim_call T rows firsts outcomes olds scratch).olds in
      let count : z.n ≡ length (trim_tree (tree_of T)).states = ap (λ (y : Size). y.n) t.size in
      omega (
        arith,
        count,
        trim_long (tree_of T),
        ap length t.map,
        ap length (take-append-drop z.n after),
        length-append (take z.n after) (drop z.n after),
      )

  -- U trimmed again, into tables that are long enough
  module _ (rows' : List Row) (firsts' outcomes' olds' scratch' : List ℕ)
      (long_rows : z.n ≤ length rows') (long_firsts : z.m ≤ length firsts') (long_outcomes : z.t ≤ length outcomes')
      (long_olds : z.n ≤ length olds') (long_scratch : z.n ≤ length scratch') where
    same_tree : trim_tree (tree_of U) ≡ trim_tree (tree_of T)
    same_tree = ap trim_tree tree ∙ trim_again (tree_of T) good

    same_size : (trimmed (tree_of U)).size ≡ z
    same_size = ap (λ (q : Tree). (tables_of q).size) same_tree ∙ sym t.size

    answers_again : (trim_call U rows' firsts' outcomes' olds' scratch').answers ≡ given z
    unfolding answer
    answers_again =
        let trims-again
        = (trimming_iff U (length rows') (length firsts') (length outcomes') (length olds') (length scratch') (tree_of U)).1 (record {
          sounds = trimmed_sound T rows firsts outcomes olds scratch z t;
          long_rows = rw same_size long_rows;
          long_firsts = rw same_size long_firsts;
          long_outcomes = rw same_size long_outcomes;
          long_olds = rw same_size long_olds;
          long_scratch = long_scratch;
          is = refl;
        }) in
        rw trims-again (ap given same_size)

    again : ((trim_call U rows' firsts' outcomes' olds' scratch').answers ≡ given z)
        × Same U (after_trimming z U rows' firsts' outcomes' olds' scratch')
        × (take z.n (trim_call U rows' firsts' outcomes' olds' scratch').olds ≡ tabulate (λ i. i) 0 z.n)
    unfolding tables_of
    again =
        let u = trims U rows' firsts' outcomes' olds' scratch' z answers_again in
        let same = subst (λ (q : Tree). Same (after_trimming z U rows' firsts' outcomes' olds' scratch') (tables_of q)) same_tree u.same in
        let count : z.n ≡ length (trim_tree (tree_of T)).states = ap (λ (y : Size). y.n) t.size in (
          answers_again,
          same_on t.same (same_back same),
          u.map ∙ ap map_of tree ∙ map_again (tree_of T) good ∙ ap (tabulate (λ i. i) 0) (sym count),
        )

  pub trimmed_tables : Trimmed T U (trim_call T rows firsts outcomes olds scratch).olds
  trimmed_tables = record {
    sounds = (sound_iff U).0 (trimmed_sound T rows firsts outcomes olds scratch z t);
    no_larger = no_larger;
    map_long = map_long;
    keeps = keeps;
    by_tables = kept_entries T U old keeps;
    again = again;
  }
