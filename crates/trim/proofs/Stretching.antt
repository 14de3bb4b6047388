-- The stretch that is read of a state of a sound plan is where its commands lie, and the outcomes of them all.
use mathlib.Core.Path.{◌≡◌, sym, ap, ◌∙◌}
use mathlib.Core.List.{List}
use Prim.Native.Nat.{ℕ, suc, ◌+◌, ◌-◌, ◌<◌, ◌≤◌}
use native.Mathlib.Numerals.{add-one}
use native.Mathlib.Omega.{arith}
use lib.ListN.{length, get_or}
use lib.Seq.{slice, length-slice}
use Rattle.laws.specs.Lists.{tabulate, joined}
use Rattle.laws.proofs.Lists.{length_tabulate}
use Rattle.laws.proofs.Starts.{start_in_lem}
use Rattle.model.specs.File.{State}
use Rattle.model.specs.Tables.{Lists, firsts_from}
use Rattle.model.specs.Places.{first_command, command_count, list_at, start_in}
use Rattle.model.specs.Held.{state_at, tree_of, state_of}
use Rattle.model.proofs.HeldPlan.{state_held}
use Rattle.model.proofs.SoundFacts.{sound_facts}
use Rattle.tables.specs.declared.Plan.{Plan}
use Rattle.tables.specs.declared.sound_plan.SoundPlan.{SoundPlan}
use Rattle.tables.specs.Meaning.{lent}
use Rattle.tables.specs.Ready.{Ready}
use Rattle.tables.specs.Spans.{commands_of}
use Rattle.tables.proofs.Readiness.{ready_order, ready_end}
use Rattle.tables.proofs.SoundPlans.{plan_ready}
use Rattle.tables.proofs.Stretches.{stretch, stretch_firsts}
use Rattle.trim.specs.declared.stretches.Stretch.{Stretch}
use Rattle.trim.specs.Stretches.{stretch_at}

-- the commands cs of the plan lie in the stretch r
pub record InStretch (p : Plan) (cs : List (List ℕ)) (r : Stretch) : Type 0 where
  pub rises : r.first ≤ r.end
  pub below : r.end ≤ p.size.m
  pub order : r.from ≤ r.to
  pub within : r.to ≤ p.size.t
  pub count : r.end - r.first ≡ length cs
  pub outs : slice r.from r.to p.outcomes.now ≡ joined cs
  pub many : r.to - r.from ≡ length (joined cs)
  pub begins : (t : ℕ) → firsts_from t cs ≡ tabulate (λ c. get_or p.firsts.now c 0 - r.from + t) r.first (r.end - r.first)
  pub each : (c : ℕ) → r.first ≤ c → c < r.end → (r.from ≤ get_or p.firsts.now c 0) × (get_or p.firsts.now c 0 ≤ r.to)

module _ (q : SoundPlan) where
  abbrev L : Lists
  L = commands_of q.plan.size q.plan.firsts.now q.plan.outcomes.now

  ready : Ready q.plan.size.n L
  ready = plan_ready q

  module _ (a k : ℕ) (h : a + k ≤ q.plan.size.m) where
    -- k commands from command a on
    run_stretch : InStretch q.plan (tabulate (list_at L) a k)
        (record { first = a; end = a + k; from = start_in L a; to = start_in L (a + k) })
    run_stretch =
        let count : a + k - a ≡ k = omega arith in
        let within = ready_end ready (a + k) h in
        let outs = stretch L ready a k h in
        record {
          rises = omega arith;
          below = h;
          order = ready_order ready a (a + k) (omega arith) h;
          within = within;
          count = count ∙ sym (length_tabulate (list_at L) a k);
          outs = sym outs;
          many =
              sym
              (ap length outs ∙ length-slice (start_in L a) (start_in L (a + k)) q.plan.outcomes.now (omega (arith, ready.states.long)));
          begins = λ t.
              stretch_firsts L ready (start_in L a) t a k t h (omega arith) (omega arith)
              ∙ ap (tabulate (λ c. get_or q.plan.firsts.now c 0 - start_in L a + t) a) (sym count);
          each = λ c low high.
              let is = start_in_lem q.plan.firsts.now q.plan.size.m q.plan.size.t c (omega arith) in (
                rw (← is) (ready_order ready a c low (omega arith)),
                rw (← is) (ready_order ready c (a + k) (omega arith) h),
              );
        }

  -- those of the state s
  pub state_stretch : (s : ℕ) → s < q.plan.size.n → {r : Stretch} → r ≡ stretch_at (lent q.plan) s
      → InStretch q.plan (state_of (tree_of (lent q.plan)) s).commands r
  unfolding state_at command_count
  state_stretch s l is =
      let T = lent q.plan in
      let fits = ((sound_facts T).0 q.sounds).rows s l in
      let k = first_command T (suc s) - first_command T s in
      let past : first_command T s + k ≡ first_command T (s + 1) = omega (arith, fits.rises, ap (first_command T) (add-one s)) in
      rw (is, ap (λ (q : State). q.commands) (state_held T s l), ← past)
      (run_stretch (first_command T s) k (omega (arith, fits.rises, fits.below)))
