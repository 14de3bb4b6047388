-- Demand 3, of the tables that deciding and a search return.
use mathlib.Core.Path.{◌≡◌, sym, ◌∙◌, ap}
use mathlib.Core.Bool.{false}
use mathlib.Core.List.{List}
use mathlib.Core.Option.{none}
use Prim.Native.Nat.{ℕ, ◌<◌}
use native.Mathlib.Omega.{arith}
use lib.ListN.{get_or}
use Rattle.laws.specs.Entry.{FFFF, entry, from_entry}
use Rattle.laws.proofs.EntryFound.{from_entry_lem}
use Rattle.model.specs.Plan.{Plan, Valid}
use Rattle.model.specs.Verdict.{rank, lost}
use Rattle.model.specs.Command.{chosen}
use Rattle.model.specs.Search.{search}
use Rattle.model.specs.Demand3.{read_entry, Searched, Demand3}
use Rattle.model.proofs.Choices.{choice_some}
use Rattle.model.proofs.Layers.{rank_bound, rank_safe, chosen_choice}
use Rattle.model.proofs.Deciding.{decided}
use Rattle.model.proofs.Searching.{Answers, search_answers}

-- the entries of deciding's tables are read as what they hold
module _ (P : Plan) (S : Valid P) (few : P.states < 65535) (fit : (s : ℕ) → s < P.states → P.commands s < 65535) where
  pub rank_entry_lem : (s : ℕ) → from_entry (entry (rank P s)) ≡ rank P s
  rank_entry_lem s = from_entry_lem (rank P s) (λ r e. omega (arith, rank_bound P s r e))

  pub chosen_entry : (s : ℕ) → s < P.states → from_entry (entry (chosen P s)) ≡ chosen P s
  chosen_entry s l =
      from_entry_lem (chosen P s) (λ c e. omega (arith, (choice_some P (lost P) s c (sym (chosen_choice P S s l) ∙ e)).1, fit s l))

module _ (P : Plan) (S : Valid P) (few : P.states < 65535) (fit : (s : ℕ) → s < P.states → P.commands s < 65535)
    (ranks commands table : List ℕ)
    (is_rank : (s : ℕ) → s < P.states → get_or ranks s FFFF ≡ entry (rank P s))
    (is_chosen : (s : ℕ) → s < P.states → get_or commands s FFFF ≡ entry (chosen P s)) where
  rank_read : (s : ℕ) → s < P.states → read_entry ranks s ≡ rank P s
  unfolding read_entry
  rank_read s l = ap from_entry (is_rank s l) ∙ rank_entry_lem P S few fit s

  chosen_read : (s : ℕ) → s < P.states → read_entry commands s ≡ chosen P s
  unfolding read_entry
  chosen_read s l = ap from_entry (is_chosen s l) ∙ chosen_entry P S few fit s l

  module _ (a : ℕ) (in_plan : a < P.states)
      (is_command : (s : ℕ) → s < P.states → get_or table s FFFF ≡ entry ((search P a).command s)) where
    same : (s : ℕ) → s < P.states → (search P a).command s ≡ chosen P s → get_or table s FFFF ≡ get_or commands s FFFF
    same s l q = is_command s l ∙ ap entry q ∙ sym (is_chosen s l)

    answers : Answers P a (search P a)
    answers = search_answers P S a in_plan

    kept : read_entry ranks a ≡ none → lost P a ≡ false
    kept e = rank_safe P a (sym (rank_read a in_plan) ∙ e)

    -- also where no round is walked, so that no walk reaches the start
    pub same_start : read_entry ranks a ≡ none → get_or table a FFFF ≡ get_or commands a FFFF
    same_start e = same a in_plan (answers.start (kept e))

    searched : Searched P ranks commands a (search P a).lost (search P a).rounds table
    unfolding lost
    searched = record {
      same_verdict = rw (rank_read a in_plan) answers.verdict;
      same_commands = λ e s w. same s (answers.inside (kept e) s w) (answers.commands (kept e) s w);
      few_rounds = answers.few;
    }

    pub demand3 : Demand3 P ranks commands a (search P a).lost (search P a).rounds table
    demand3 = record { decided = decided P S ranks commands rank_read chosen_read; searched = searched }
