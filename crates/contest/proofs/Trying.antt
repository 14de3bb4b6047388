-- The loop of the keeper's turn: command after command is tried until one leaves the works a held turn.
use mathlib.Core.Path.{◌≡◌, refl, sym, ap, ◌∙◌}
use mathlib.Core.Bool.{Bool, true, false}
use mathlib.Core.List.{List}
use Prim.Native.Nat.{ℕ, suc, ◌+◌, ◌-◌, ◌<◌, ◌≤◌}
use native.Mathlib.Numerals.{add-one}
use native.Mathlib.Omega.{arith}
use lib.ListN.{get_or, set}
use Rattle.std.specs.Prelude.{Option, Some}
use Rattle.laws.specs.Sets.{exists}
use Rattle.laws.proofs.Sets.{exists_at, exists_of}
use Rattle.laws.proofs.Tests.{clash, refute}
use Rattle.model.specs.Plan.{Plan}
use Rattle.model.specs.Contest.{works_turn, keeper_turn, max_moves}
use Rattle.model.proofs.Contests.{turn_tries}
use Rattle.contest.specs.declared.laid.LaidPlan.{LaidPlan}
use Rattle.contest.specs.LaidPlans.{laid_as}
use Rattle.contest.specs.Memo.{memo_place, Told, Open, Remembers, Knows}
use Rattle.contest.proofs.LaidPlans.{laid_commands}
use Rattle.contest.proofs.Memos.{remembers_all, remembers_then, remembers_more}

-- no command before c, of `count` in all, leaves the works a held turn
pub record Trying (p : LaidPlan) (k s count c : ℕ) (memo₀ memo : List (Option Bool)) : Type 0 where
  pub inside : s < p.checked.plan.size.n
  pub few : k ≤ max_moves
  pub unknown : Open (laid_as p) k s
  pub counted : count ≡ get_or p.tos.now s 0 - get_or p.froms.now s 0
  pub tried : exists (works_turn (laid_as p) (keeper_turn (laid_as p) (k - 1)) s) c ≡ false
  pub remembers : Remembers (laid_as p) p.checked.plan.size.n memo₀ memo

pub trying_start : {p : LaidPlan} {memo : List (Option Bool)} {k s : ℕ} → (s < p.checked.plan.size.n) × (k ≤ max_moves)
    → Told (laid_as p) p.checked.plan.size.n memo → Open (laid_as p) k s
    → (from to : ℕ) → from ≡ get_or p.froms.now s 0 → to ≡ get_or p.tos.now s 0 → Trying p k s (to - from) 0 memo memo
unfolding exists
trying_start b told o from to e f = record {
  inside = b.0;
  few = b.1;
  unknown = o;
  counted = rw (e, f);
  tried = refl;
  remembers = remembers_all told;
}

-- the turn, where commands have to be tried
turn_open : {P : Plan} {k s : ℕ} → Open P k s → keeper_turn P k s ≡ exists (works_turn P (keeper_turn P (k - 1)) s) (P.commands s)
turn_open {P} {k} {s} o =
    let e : k ≡ suc (k - 1) = omega (arith, o.moves) in
    ap (λ (j : ℕ). keeper_turn P j s) e ∙ turn_tries P s (k - 1) o.stands o.tries

module _ {p : LaidPlan} {k s count c : ℕ} {memo₀ memo : List (Option Bool)} (w : Trying p k s count c memo₀ memo) where
  abbrev P : Plan
  P = laid_as p

  -- the works' turn at command c, as it was answered
  abbrev Tried : List (Option Bool) → Bool → Type 0
  Tried memo' r = (r ≡ works_turn P (keeper_turn P (k - 1)) s c) × Remembers P p.checked.plan.size.n memo memo'

  all : count ≡ P.commands s
  all = w.counted ∙ sym (laid_commands _ _ _ _ _ _ s)

  pub trying_next : (memo' : List (Option Bool)) (r : Bool) → Tried memo' r → r ≡ false → Trying p k s count (c + 1) memo₀ memo'
  unfolding exists
  trying_next memo' r a f = record {
    inside = w.inside;
    few = w.few;
    unknown = w.unknown;
    counted = w.counted;
    tried = rw (add-one c, w.tried) (sym a.0 ∙ f);
    remembers = remembers_then w.remembers a.1;
  }

  -- the answer, what became of the memo, and that it knows the turn
  abbrev Turned : Bool → List (Option Bool) → Type 0
  Turned held memo' = (held ≡ keeper_turn P k s) × (Remembers P p.checked.plan.size.n memo₀ memo' × Knows P memo' s k)

  module _ (place : ℕ) (q : place ≡ memo_place s k) (memo'' : List (Option Bool)) where
    pub trying_found : c < count → (memo' : List (Option Bool)) (r : Bool) → Tried memo' r → r ≡ true → memo'' ≡ set memo' place (Some true)
        → Turned true memo''
    trying_found l memo' r a t e =
        let held : keeper_turn P k s ≡ true = turn_open w.unknown ∙ exists_of _ _ c (omega (arith, all)) (sym a.0 ∙ t) in
        (sym held, remembers_more (remembers_then w.remembers a.1) s k true w.inside w.few (sym held) place q memo'' e)

    pub trying_done : count ≤ c → memo'' ≡ set memo place (Some false) → Turned false memo''
    trying_done l e =
        let held : keeper_turn P k s ≡ false = turn_open w.unknown ∙ none in
        (sym held, remembers_more w.remembers s k false w.inside w.few (sym held) place q memo'' e)
      where
        none : exists (works_turn P (keeper_turn P (k - 1)) s) (P.commands s) ≡ false
        none = refute _ (λ t.
            let (i, h, u) = exists_at _ (P.commands s) t in
            clash (exists_of _ c i (omega (arith, all)) u) w.tried)
