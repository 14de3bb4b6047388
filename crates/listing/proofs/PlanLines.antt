-- The text of a sound plan, and the room that its lines need.
use mathlib.Core.Path.{◌≡◌, refl, sym, ap, ap₂, ◌∙◌}
use mathlib.Core.Bool.{true}
use mathlib.Core.List.{List, ◌++◌, append_assoc}
use Prim.Native.Nat.{ℕ, ◌+◌, ◌*◌, ◌<◌, ◌≤◌}
use native.Mathlib.Omega.{arith}
use lib.ListN.{length, length-append}
use Rattle.laws.specs.Lists.{tabulate, joined}
use Rattle.laws.specs.Wrote.{Wrote}
use Rattle.laws.proofs.Joins.{joined_bound}
use Rattle.laws.proofs.Wrote.{wrote_then}
use Rattle.model.specs.Plan.{Plan}
use Rattle.model.specs.Practice.{tally}
use Rattle.model.specs.Search.{search}
use Rattle.model.specs.Tables.{Size, Tables, tables_of}
use Rattle.model.specs.Held.{tree_of, plan_in}
use Rattle.model.specs.SoundTest.{sound}
use Rattle.model.specs.Listing.{max_listing, plan_line, state_line, tally_line, start_line, plan_text}
use Rattle.model.proofs.HeldPlan.{states_held, start_held}
use Rattle.model.proofs.ListingLength.{plan_length, state_length, tally_length}
use Rattle.model.proofs.SoundFacts.{sound_facts}
use Rattle.model.proofs.TablesBack.{tables_back}
use Rattle.listing_text.specs.declared.Output.{Output}
use Rattle.listing_text.specs.Puts.{Room, Put}
use Rattle.listing_text.proofs.Puts.{wrote, put}

module _ (P : Plan) (n : ℕ) where
  abbrev state_lines : List ℕ
  state_lines = joined (tabulate (state_line P) 0 n)

  -- the tally's line, after the states', below any limit
  pub tally_room : {l after : List ℕ} {place next limit : ℕ} → place + n * 35 + 50 ≤ limit → Wrote l place state_lines after next
      → next + 50 ≤ limit
  tally_room room w = omega (arith, room, joined_bound (state_line P) 0 n 35 (state_length P), w.past)

  -- and in the bytes lent
  pub tally_fits : {a b : Output} → Room a (n * 35 + 50) → Put a state_lines b → Room b 50
  tally_fits {a} room w = omega (arith, tally_room {limit = length a.bytes.now} (omega (arith, room)) (wrote w), w.keeps)

module _ (T : Tables) (e : sound T ≡ true) where
  abbrev verdict_lines : List ℕ
  verdict_lines = state_lines (plan_in T) T.size.n ++ tally_line (tally (plan_in T))

  abbrev last_line : List ℕ
  last_line = start_line T.size.start (search (plan_in T) T.size.start)

  text_of : Size → ℕ → ℕ → List ℕ
  text_of z n start = plan_line z ++ state_lines (plan_in T) n ++ tally_line (tally (plan_in T)) ++ start_line start (search (plan_in T) start)

  text_of_lem : plan_text (tree_of T) ≡ text_of (tables_of (tree_of T)).size (plan_in T).states (plan_in T).start
  unfolding text_of plan_text plan_in
  text_of_lem = refl

  text_is : plan_text (tree_of T) ≡ plan_line T.size ++ (verdict_lines ++ last_line)
  unfolding text_of
  text_is =
      text_of_lem ∙ ap (λ (z : Size). text_of z (plan_in T).states (plan_in T).start) (sym (tables_back T e).size)
      ∙ ap₂ (text_of T.size) (states_held T) (start_held T)
      ∙ ap (λ (l : List ℕ). l ++ last_line)
      (append_assoc (plan_line T.size) (state_lines (plan_in T) T.size.n) (tally_line (tally (plan_in T))))
      ∙ append_assoc (plan_line T.size) verdict_lines last_line

  pub numbers_small : (T.size.n < 1000000) × (T.size.m < 1000000) × (T.size.t < 1000000)
  numbers_small =
      let f = ((sound_facts T).0 e).size in
      (omega (arith, f.few), omega (arith, f.few_commands), omega (arith, f.few_outcomes))

  -- ---- stored in a list, below any limit

  module _ {l₀ l₁ : List ℕ} {i₀ i₁ : ℕ} (first : Wrote l₀ i₀ (plan_line T.size) l₁ i₁) where
    pub verdicts_room : {limit : ℕ} → i₀ + max_listing ≤ limit → i₁ + T.size.n * 35 + 50 ≤ limit
    verdicts_room room = omega (arith, room, ((sound_facts T).0 e).size.few, plan_length T.size, first.past)

    module _ {l₂ : List ℕ} {i₂ : ℕ} (verdicts : Wrote l₁ i₁ verdict_lines l₂ i₂) where
      pub start_room : {limit : ℕ} → i₀ + max_listing ≤ limit → i₂ + 22 ≤ limit
      start_room room =
          omega (
            arith,
            room,
            ((sound_facts T).0 e).size.few,
            plan_length T.size,
            first.past,
            joined_bound (state_line (plan_in T)) 0 T.size.n 35 (state_length (plan_in T)),
            tally_length (tally (plan_in T)),
            length-append (state_lines (plan_in T) T.size.n) (tally_line (tally (plan_in T))),
            verdicts.past,
          )

      pub plan_wrote : {l₃ : List ℕ} {i₃ : ℕ} → Wrote l₂ i₂ last_line l₃ i₃ → Wrote l₀ i₀ (plan_text (tree_of T)) l₃ i₃
      plan_wrote last = rw text_is (wrote_then first (wrote_then verdicts last))

  -- ---- put into the bytes lent

  module _ {a b : Output} (room : Room a max_listing) (first : Put a (plan_line T.size) b) where
    pub verdicts_fit : Room b (T.size.n * 35 + 50)
    verdicts_fit = omega (arith, verdicts_room (wrote first) room, first.keeps)

    module _ {c : Output} (verdicts : Put b verdict_lines c) where
      pub start_fits : Room c 22
      start_fits = omega (arith, start_room (wrote first) (wrote verdicts) room, first.keeps, verdicts.keeps)

      pub plan_put : {d : Output} → Put c last_line d → Put a (plan_text (tree_of T)) d
      plan_put last = put (last.same ∙ verdicts.same ∙ first.same) (plan_wrote (wrote first) (wrote verdicts) (wrote last))
