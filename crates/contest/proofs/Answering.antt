-- The loop of the works' turn: outcome after outcome is tried until one gives the keeper a turn that is not held.
use mathlib.Core.Path.{◌≡◌, refl, sym, ap, ◌∙◌}
use mathlib.Core.Bool.{Bool, true, false, ◌&&◌}
use mathlib.Core.List.{List}
use Prim.Native.Nat.{ℕ, ◌+◌, ◌-◌, ◌<◌, ◌≤◌}
use native.Mathlib.Omega.{arith}
use lib.ListN.{length, get_or}
use lib.Seq.{slice}
use Rattle.std.specs.Prelude.{Option}
use Rattle.laws.specs.Sets.{each}
use Rattle.laws.proofs.Scans.{each_part, each_no_part}
use Rattle.model.specs.Plan.{Plan}
use Rattle.model.specs.Places.{first_outcome}
use Rattle.model.specs.Contest.{works_turn, keeper_turn, max_moves}
use Rattle.tables.specs.Meaning.{lent}
use Rattle.contest.specs.declared.laid.LaidPlan.{LaidPlan}
use Rattle.contest.specs.LaidPlans.{laid_as}
use Rattle.contest.specs.Memo.{Told, Remembers}
use Rattle.contest.proofs.LaidPlans.{laid_works, laid_inside}
use Rattle.contest.proofs.Memos.{remembers_all, remembers_then}

-- the outcomes from place i on decide the turn at command c of s
pub record Answering (p : LaidPlan) (k s c end i : ℕ) (memo₀ memo : List (Option Bool)) : Type 0 where
  pub few : k ≤ max_moves
  pub since : i ≤ end
  pub long : end ≤ length p.checked.plan.outcomes.now
  pub states : (j : ℕ) → j < end → get_or p.checked.plan.outcomes.now j 0 < p.checked.plan.size.n
  pub decides : let P = laid_as p in
      each (keeper_turn P k) (slice i end p.checked.plan.outcomes.now) ≡ works_turn P (keeper_turn P k) s c
  pub remembers : Remembers (laid_as p) p.checked.plan.size.n memo₀ memo

pub answering_start : {p : LaidPlan} {memo : List (Option Bool)} {k s c : ℕ}
    → (s < p.checked.plan.size.n) × ((c < get_or p.tos.now s 0 - get_or p.froms.now s 0) × (k ≤ max_moves))
    → Told (laid_as p) p.checked.plan.size.n memo
    → (from first end : ℕ) → from ≡ get_or p.froms.now s 0 → first ≡ first_outcome (lent p.checked.plan) (from + c)
    → end ≡ first_outcome (lent p.checked.plan) (from + c + 1) → Answering p k s c end first memo memo
answering_start {p} {memo} {k} {s} {c} b told from first end q a e =
    let place = ap (λ (x : ℕ). x + c) q in
    let (since, long, states) = laid_inside p.laid s c b.0 b.1.0 _ first end place a e in
    record {
      few = b.1.1;
      since = since;
      long = long;
      states = states;
      decides = laid_works _ _ _ _ _ _ s _ c _ first end place a e;
      remembers = remembers_all told;
    }

module _ {p : LaidPlan} {k s c end i : ℕ} {memo₀ memo : List (Option Bool)} (w : Answering p k s c end i memo₀ memo) where
  abbrev P : Plan
  P = laid_as p

  abbrev turn : Bool
  turn = works_turn P (keeper_turn P k) s c

  module _ (h : i < end) (x : ℕ) (q : x ≡ get_or p.checked.plan.outcomes.now i 0) (memo' : List (Option Bool)) (r : Bool) (a : r ≡ keeper_turn P k x)
      (v : Remembers P p.checked.plan.size.n memo memo') where
    next : r && each (keeper_turn P k) (slice (i + 1) end p.checked.plan.outcomes.now) ≡ turn
    next = sym (each_part (keeper_turn P k) p.checked.plan.outcomes.now i end h w.long ∙ rw (← q, ← a) refl) ∙ w.decides

    pub answering_next : r ≡ true → Answering p k s c end (i + 1) memo₀ memo'
    answering_next f = record {
      few = w.few;
      since = omega arith;
      long = w.long;
      states = w.states;
      decides = rw f at next;
      remembers = remembers_then w.remembers v;
    }

    pub answering_found : r ≡ false → (false ≡ turn) × Remembers P p.checked.plan.size.n memo₀ memo'
    answering_found t = (rw t at next, remembers_then w.remembers v)

  pub answering_done : end ≤ i → (true ≡ turn) × Remembers P p.checked.plan.size.n memo₀ memo
  answering_done h = (sym (each_no_part (keeper_turn P k) p.checked.plan.outcomes.now i end w.since h) ∙ w.decides, w.remembers)
