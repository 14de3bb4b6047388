-- The pass over the states: those before i are judged.
use mathlib.Core.Path.{◌≡◌, refl, ap, ◌∙◌}
use mathlib.Core.Bool.{Bool}
use mathlib.Core.List.{List, [], ◌∷◌}
use Prim.Native.Nat.{ℕ, ◌+◌, ◌<◌}
use native.Mathlib.Omega.{arith}
use lib.ListN.{length, get_or}
use Rattle.laws.proofs.Fills.{filled_none, filled_next}
use Rattle.model.specs.File.{max_states}
use Rattle.model.specs.Plan.{Plan, has_practice}
use Rattle.decide.specs.declared.verdicts.Place.{Place}
use Rattle.decide.specs.Verdicts.{numbered, mark_at, Low, added, StateJudged, StatesJudged}
use Rattle.decide.proofs.Tallies.{counted_none, counted_next, counted_low}

pub pass_start : {P : Plan} {L : ℕ → Bool} {cs ms : List ℕ} → StatesJudged P L 0 cs ms ((0 ∷ 0 ∷ 0 ∷ []) ∷ (0 ∷ 0 ∷ 0 ∷ []) ∷ []) cs ms
pass_start {P} {L} {cs} {ms} = record { took = filled_none; marked = filled_none; counted = counted_none L (has_practice P) (numbered ms) }

module _ {P : Plan} {L : ℕ → Bool} {i : ℕ} {cs₀ ms₀ cs ms : List ℕ} {t : List (List ℕ)} (w : StatesJudged P L i cs₀ ms₀ t cs ms) where
  -- the mark that is read is the one that the pass began with
  mark_read : numbered ms i ≡ numbered ms₀ i
  mark_read = rw (w.marked.high i (omega arith))

  -- the counts fit
  pub pass_room : i < max_states → Low (get_or t 0 []) × Low (get_or t 1 [])
  pass_room h = rw w.counted (counted_low L (has_practice P) (numbered ms₀) i h)

  pub pass_next : {p : Place} {cs' ms' : List ℕ} → StateJudged P L (numbered ms i) i cs ms p cs' ms' → i < length cs₀ → i < length ms₀
      → (t' : List (List ℕ)) → t' ≡ added t p → StatesJudged P L (i + 1) cs₀ ms₀ t' cs' ms'
  pass_next {p} {cs'} {ms'} j lc lm t' e = record {
    took = filled_next w.took lc _ refl cs' j.took;
    marked = filled_next w.marked lm _ (ap (λ (b : Bool). mark_at P L b i) mark_read) ms' j.marked;
    counted = e ∙ rw (j.row, j.column, w.counted, mark_read) (counted_next L (has_practice P) (numbered ms₀) i);
  }
