-- The line of a state, from the entries that hold what it says.
use mathlib.Core.Path.{◌≡◌, refl, sym, ap, ◌∙◌}
use mathlib.Core.List.{List, [], ◌∷◌}
use mathlib.Core.Option.{Option}
use Prim.Native.Nat.{ℕ, ◌%◌, ◌<◌}
use lib.Dec.{eqb}
use lib.ListN.{get_or}
use Rattle.laws.specs.Entry.{entry, from_entry}
use Rattle.laws.specs.Lists.{overwrite}
use Rattle.laws.specs.Sets.{found}
use Rattle.laws.specs.Wrote.{Wrote}
use Rattle.laws.proofs.Overwrites.{overwrite_at}
use Rattle.model.specs.Calls.{rank_table, command_table, mark_table}
use Rattle.model.specs.Plan.{Plan, Valid}
use Rattle.model.specs.Verdict.{rank, lost}
use Rattle.model.specs.Command.{chosen}
use Rattle.model.specs.Practice.{mark, fault_outcome}
use Rattle.model.specs.Listing.{decimal, line, kind_letter, verdict_letter, number_or_dash, practice_letter, fault_sign, state_line}
use Rattle.model.proofs.Demands.{rank_entry_lem, chosen_entry}
use Rattle.listing_text.specs.declared.Output.{Output}
use Rattle.listing_text.specs.Puts.{Put}
use Rattle.listing_text.specs.Words.{spaced}
use Rattle.listing_text.specs.Listed.{Listed}
use Rattle.listing_text.proofs.Entries.{mark_says}
use Rattle.listing_text.proofs.LineBytes.{words_wrote, line_wrote}
use Rattle.listing_text.proofs.Puts.{wrote, put}

module _ {P : Plan} {s k r c m : ℕ} {o : Option ℕ} (q : Listed P s k r c m o) where
  -- the words after the number
  abbrev words : List (List ℕ)
  words =
      kind_letter k ∷ verdict_letter (found (from_entry r)) ∷ number_or_dash (from_entry r) ∷ number_or_dash (from_entry c)
      ∷ practice_letter (eqb (m % 2) 1) ∷ fault_sign o ∷ []

  line_is : line (decimal s ∷ words) ≡ state_line P s
  unfolding state_line lost
  line_is = rw (q.kind_is, q.rank_is, q.chosen_is, q.outcome_is, (mark_says P s m q.mark_is).0)

  pub state_wrote : {l₀ l₁ l₂ l₃ l₄ l₅ l₆ : List ℕ} {i₀ i₁ i₂ i₃ i₄ i₅ i₆ letter : ℕ}
      → letter ∷ [] ≡ kind_letter k
      → Wrote l₀ i₀ (decimal s) l₁ i₁
      → Wrote l₁ i₁ (spaced ((letter ∷ []) ∷ [])) l₂ i₂
      → Wrote l₂ i₂ (spaced (verdict_letter (found (from_entry r)) ∷ number_or_dash (from_entry r) ∷ [])) l₃ i₃
      → Wrote l₃ i₃ (spaced (number_or_dash (from_entry c) ∷ [])) l₄ i₄
      → Wrote l₄ i₄ (spaced (practice_letter (eqb (m % 2) 1) ∷ fault_sign o ∷ [])) l₅ i₅
      → Wrote l₅ i₅ (10 ∷ []) l₆ i₆ → Wrote l₀ i₀ (state_line P s) l₆ i₆
  state_wrote e number kind verdict command marks end =
      rw (← line_is)
      (line_wrote words number
      (words_wrote (_ ∷ []) (_ ∷ _ ∷ _ ∷ _ ∷ _ ∷ []) (rw e at kind)
      (words_wrote (_ ∷ _ ∷ []) (_ ∷ _ ∷ _ ∷ []) verdict (words_wrote (_ ∷ []) (_ ∷ _ ∷ []) command marks)))
      end)

  pub state_put : {t₀ t₁ t₂ t₃ t₄ t₅ t₆ : Output} {letter : ℕ} → letter ∷ [] ≡ kind_letter k
      → Put t₀ (decimal s) t₁
      → Put t₁ (spaced ((letter ∷ []) ∷ [])) t₂
      → Put t₂ (spaced (verdict_letter (found (from_entry r)) ∷ number_or_dash (from_entry r) ∷ [])) t₃
      → Put t₃ (spaced (number_or_dash (from_entry c) ∷ [])) t₄
      → Put t₄ (spaced (practice_letter (eqb (m % 2) 1) ∷ fault_sign o ∷ [])) t₅
      → Put t₅ (10 ∷ []) t₆ → Put t₀ (state_line P s) t₆
  state_put e number kind verdict command marks end =
      put (end.same ∙ marks.same ∙ command.same ∙ verdict.same ∙ kind.same ∙ number.same)
      (state_wrote e (wrote number) (wrote kind) (wrote verdict) (wrote command) (wrote marks) (wrote end))

module _ (P : Plan) (valid : Valid P) (few : P.states < 65535) (fit : (s : ℕ) → s < P.states → P.commands s < 65535) where
  -- the entries of a state hold what its line says
  pub listed : {s k r c m : ℕ} → s < P.states → k ≡ P.kind s → r ≡ entry (rank P s) → c ≡ entry (chosen P s) → m ≡ mark P s
      → Listed P s k r c m (fault_outcome P s)
  listed {s} h kind_of rank-of Chosen-of mark_of = record {
    kind_is = sym kind_of;
    rank_is = sym (ap from_entry rank-of ∙ rank_entry_lem P valid few fit s);
    chosen_is = sym (ap from_entry Chosen-of ∙ chosen_entry P valid few fit s h);
    mark_is = sym mark_of;
    outcome_is = refl;
  }

  -- and the tables that deciding leaves hold them
  pub listed_tables : (ranks commands marks : List ℕ) (s : ℕ) → s < P.states
      → Listed P s (P.kind s) (get_or (overwrite (rank_table P) ranks) s 0) (get_or (overwrite (command_table P) commands) s 0)
      (get_or (overwrite (mark_table P) marks) s 0) (fault_outcome P s)
  unfolding rank_table command_table mark_table
  listed_tables ranks commands marks s h =
      listed h refl (overwrite_at _ P.states ranks s h) (overwrite_at _ P.states commands s h)
      (overwrite_at (mark P) P.states marks s h)
