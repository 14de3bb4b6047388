-- Laws of runs that stay in a set: how they go on, begin and end, and which rules keep to a set.
use mathlib.Core.Path.{◌≡◌, refl, sym, subst, ◌∙◌}
use mathlib.Core.Bool.{Bool, true}
use mathlib.Core.List.{Memᴰ}
use mathlib.Core.Logic.{◌⊎◌, inl, inr, ◌↔◌}
use mathlib.Core.Option.{Option, some}
use Prim.Native.Nat.{ℕ, ◌<◌}
use borrow.Author.Tests.{not-true}
use Rattle.laws.proofs.Sets.{Part}
use Rattle.model.specs.Plan.{Plan, Valid}
use Rattle.model.specs.Run.{Move, Run, no_moves, ◌▸◌, present, IsRun, RunHolds}
use Rattle.model.specs.Stays.{Stays}
use Rattle.model.specs.Rule.{Rule, Under, positional}
use Rattle.model.specs.Verdict.{lost, safe}
use Rattle.model.specs.Command.{chosen}
use Rattle.model.proofs.Choices.{misses, choice_some}
use Rattle.model.proofs.Layers.{safe_stands, chosen_choice}
use Rattle.model.proofs.Deciding.{run_inside}

-- ---- one run

module _ (K : ℕ → Bool) (s : ℕ) where
  -- it is from a state of the set
  pub stays_first : (w : Run) → Stays K s w → K s ≡ true
  stays_first no_moves h = h
  stays_first (w ▸ m) h = stays_first w h.0

  -- it has come to a state of the set
  pub stays_end : (w : Run) → Stays K s w → K (present s w) ≡ true
  unfolding present
  stays_end no_moves h = h
  stays_end (w ▸ m) h = h.1

  -- it goes on by a move that lands in the set
  pub stays_on : (w : Run) (m : Move) → Stays K s w → K m.landing ≡ true → Stays K s (w ▸ m)
  stays_on w m h e = (h, e)

-- a larger set has no fewer of a plan's runs
pub stays_more : (P : Plan) → Valid P → (K L : ℕ → Bool) → Part P.states K L → (s : ℕ) → s < P.states
    → (w : Run) → IsRun P s w → Stays K s w → Stays L s w
unfolding present
stays_more P S K L more s l no_moves i h = more s l h
stays_more P S K L more s l (w ▸ m) i h =
    (stays_more P S K L more s l w i.0 h.0, more m.landing (run_inside P S s l (w ▸ m) i) h.1)

-- ---- what a run begins with

-- w begins with the moves of v, all of them perhaps
abbrev pub Begins : Run → Run → Type 0
Begins v no_moves = v ≡ no_moves
Begins v (w ▸ m) = (v ≡ w ▸ m) ⊎ Begins v w

pub begins_whole : (w : Run) → Begins w w
begins_whole no_moves = refl
begins_whole (w ▸ m) = inl refl

-- what goes over from a run to the same without its last move goes over to all that it begins with
begins_all : (Q : Run → Type 0) → ((w : Run) (m : Move) → Q (w ▸ m) → Q w) → (v w : Run) → Begins v w → Q w → Q v
begins_all Q less v no_moves b q = subst Q (sym b) q
begins_all Q less v (w ▸ m) (inl e) q = subst Q (sym e) q
begins_all Q less v (w ▸ m) (inr b) q = begins_all Q less v w b (less w m q)

pub begins_run : (P : Plan) (s : ℕ) (v w : Run) → Begins v w → IsRun P s w → IsRun P s v
begins_run P s = begins_all (IsRun P s) (λ w m i. i.0)

pub begins_under : (ρ : Rule) (v w : Run) → Begins v w → Under ρ w → Under ρ v
begins_under ρ = begins_all (Under ρ) (λ w m u. u.0)

module _ (K : ℕ → Bool) (s : ℕ) where
  pub begins_stays : (v w : Run) → Begins v w → Stays K s w → Stays K s v
  begins_stays = begins_all (Stays K s) (λ w m h. h.0)

  -- a run stays in the set if all that it begins with ends there
  pub stays_iff : (w : Run) → Stays K s w ↔ ((v : Run) → Begins v w → K (present s v) ≡ true)
  unfolding present
  stays_iff w = (λ h v b. stays_end K s v (begins_stays v w b h), of w)
    where
      of : (w : Run) → ((v : Run) → Begins v w → K (present s v) ≡ true) → Stays K s w
      of no_moves h = h no_moves refl
      of (w ▸ m) h = (of w (λ v b. h v (inr b)), h (w ▸ m) (inl refl))

-- ---- rules that keep to a set

module _ (P : Plan) (K : ℕ → Bool) (s : ℕ) where
  -- a set where every run under a rule ends is one where every run under it stays
  pub stays_under : (ρ : Rule) → ((w : Run) → IsRun P s w → Under ρ w → K (present s w) ≡ true)
      → (w : Run) → IsRun P s w → Under ρ w → Stays K s w
  stays_under ρ ends w i u = (stays_iff K s w).1 (λ v b. ends v (begins_run P s v w b i) (begins_under ρ v w b u))

  -- a set that a table of commands does not leave: every run under it, from a state of the set, stays there
  pub stays_table : Valid P → s < P.states → (C : ℕ → Option ℕ)
      → ((t c x : ℕ) → t < P.states → K t ≡ true → C t ≡ some c → Memᴰ x (P.outcomes t c) → K x ≡ true)
      → K s ≡ true → (w : Run) → IsRun P s w → Under (positional C s) w → Stays K s w
  unfolding positional
  stays_table S l C kept e no_moves i u = e
  stays_table S l C kept e (w ▸ m) i u =
      let h = stays_table S l C kept e w i.0 u.0 in
      (h, kept (present s w) m.command m.landing (run_inside P S s l w i.0) (stays_end K s w h) u.1 i.1.landed)

-- ---- safe states

module _ (P : Plan) (S : Valid P) where
  -- a chosen command has safe outcomes only
  pub chosen_safe : (t c x : ℕ) → t < P.states → chosen P t ≡ some c → Memᴰ x (P.outcomes t c) → safe P x ≡ true
  unfolding safe
  chosen_safe t c x l e out =
      let (act, own, none) = choice_some P (lost P) t c (sym (chosen_choice P S t l) ∙ e) in
      rw (misses P (lost P) t c x none out)

  module _ (s : ℕ) (l : s < P.states) where
    -- so a table of chosen commands keeps to safe states
    pub chosen_stays : (C : ℕ → Option ℕ) → ((t : ℕ) → t < P.states → C t ≡ chosen P t)
        → safe P s ≡ true → (w : Run) → IsRun P s w → Under (positional C s) w → Stays (safe P) s w
    chosen_stays C is_chosen = stays_table P (safe P) s S l C (λ t c x k h e. chosen_safe t c x k (sym (is_chosen t k) ∙ e))

    -- a run that stays in safe states does not fail
    pub stays_holds : (w : Run) → IsRun P s w → Stays (safe P) s w → RunHolds P s w
    unfolding safe
    stays_holds w i h = safe_stands P S (present s w) (run_inside P S s l w i) (not-true (lost P (present s w)) (stays_end (safe P) s w h))
