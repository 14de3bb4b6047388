-- What deciding's tables say of a state (the decided part of demand 3).
use mathlib.Core.Path.{◌≡◌, refl, sym, ◌∙◌}
use mathlib.Core.Bool.{Bool, true, false}
use mathlib.Core.Logic.{⊎_elim}
use mathlib.Core.List.{List}
use mathlib.Core.Option.{Option, none, some}
use Prim.Native.Nat.{ℕ, zero, suc, ◌+◌, ◌-◌, ◌<◌, ◌≤◌}
use native.Mathlib.Omega.{arith}
use Rattle.laws.specs.Sets.{grow}
use Rattle.laws.proofs.Tests.{clash, true_or_false}
use Rattle.model.specs.Plan.{Plan, Valid}
use Rattle.model.specs.Verdict.{forced, layer, rank, lost}
use Rattle.model.specs.Command.{choice, chosen}
use Rattle.model.specs.Run.{Move, Run, no_moves, ◌▸◌, present, moves, CanMove, IsRun, RunHolds}
use Rattle.model.specs.Rule.{Rule, Under, Commanding, Fails, Survives, positional}
use Rattle.model.specs.Demand3.{Decided, read_entry}
use Rattle.model.proofs.StateKinds.{active_is, active_of}
use Rattle.model.proofs.Choices.{hits_is, misses, forced_is, forced_of, choice_some, choice_none}
use Rattle.model.proofs.Layers.{
  layer_step,
  not_failing,
  not_forced,
  rank_some,
  lost_rank,
  rank_safe,
  safe_stands,
  safe_takes,
  chosen_choice,
}

-- a run stays in the plan
pub run_inside : (P : Plan) → Valid P → (s : ℕ) → s < P.states → (w : Run) → IsRun P s w → present s w < P.states
unfolding present
run_inside P S s l no_moves i = l
run_inside P S s l (w ▸ m) i =
    let can = i.1 in
    S.inside (present s w) m.command m.landing (run_inside P S s l w i.0) can.issued can.landed

-- ---- a lost state: every rule that commands has a failing run, no longer than the layer's number

module _ (P : Plan) (s : ℕ) (ρ : Rule) (C : Commanding P s ρ) where
  -- the rule has a failing run of at most k moves
  abbrev pub Within : ℕ → Type 0
  Within k = (f : Fails P s ρ) × (moves f.run ≤ k)

  -- a run that has come to layer k goes on to fail in at most k moves more
  abbrev Caught : ℕ → Type 0
  Caught k = (w : Run) → IsRun P s w → Under ρ w → layer P k (present s w) ≡ true → Within (moves w + k)

  caught_next : (k : ℕ) → Caught k → Caught (suc k)
  unfolding present
  caught_next k below w i u e = ⊎_elim sooner moved (layer_step P k t e)
    where
      t : ℕ
      t = present s w

      sooner : layer P k t ≡ true → Within (moves w + suc k)
      sooner h = let r = below w i u h in (r.0, omega (arith, r.1))

      moved : forced P (layer P k) t ≡ true → Within (moves w + suc k)
      moved h =
          let (act, hit) = forced_is P (layer P k) t h in
          let (c, named) = C.acts w i u act in
          let mine = C.own w c i named in
          let (x, out, in_k) = hits_is P (layer P k) t c (hit c mine) in
          let m : Move = record { command = c; landing = x } in
          let can : CanMove P t m = record { leaves = (active_is P t act).0; issued = mine; landed = out } in
          let r = below (w ▸ m) (i, can) (u, named) in_k in
          (r.0, omega (arith, r.1))

  caught : (k : ℕ) → Caught k
  unfolding grow
  caught zero = λ w i u e. (record { run = w; is_run = i; under = u; fails = e }, omega arith)
  caught (suc k) = caught_next k (caught k)

  pub rank_within : (r : ℕ) → rank P s ≡ some r → Within r
  unfolding present
  rank_within r e = let f = caught r no_moves tt tt (rank_some P s r e).0 in (f.0, omega (arith, f.1))

-- ---- a safe state: the chosen commands are a rule that commands, and no run under them fails

module _ (P : Plan) (S : Valid P) (C : ℕ → Option ℕ) (is_chosen : (t : ℕ) → t < P.states → C t ≡ chosen P t)
    (s : ℕ) (in_plan : s < P.states) (kept : lost P s ≡ false) where
  taken : (w : Run) → IsRun P s w → positional C s w ≡ choice P (lost P) (present s w)
  unfolding positional
  taken w i =
      let l = run_inside P S s in_plan w i in
      is_chosen (present s w) l ∙ chosen_choice P S (present s w) l

  -- every run under them stays at safe states
  stays : (w : Run) → IsRun P s w → Under (positional C s) w → lost P (present s w) ≡ false
  unfolding present
  stays no_moves i u = kept
  stays (w ▸ m) i u =
      let (act, own, out) = choice_some P (lost P) (present s w) m.command (sym (taken w i.0) ∙ u.1) in
      misses P (lost P) (present s w) m.command m.landing out i.1.landed

  pub chosen_commanding : Commanding P s (positional C s)
  chosen_commanding = record {
    own = λ w c i e. (choice_some P (lost P) (present s w) c (sym (taken w i) ∙ e)).1;
    acts = λ w i u a.
        let (c, e) = safe_takes P S (present s w) (run_inside P S s in_plan w i) a (stays w i u) in
        (c, taken w i ∙ e);
  }

  pub chosen_holds : (w : Run) → IsRun P s w → Under (positional C s) w → RunHolds P s w
  chosen_holds w i u = safe_stands P S (present s w) (run_inside P S s in_plan w i) (stays w i u)

  chosen_spared : Fails P s (positional C s) → ⊥
  chosen_spared f = clash f.fails (chosen_holds f.run f.is_run f.under)

-- ---- a lost state of rank r: a rule that survives r - 1 moves

-- the command taken, or command 0 where there is a command and none is taken
unfoldable pub else_first : Option ℕ → ℕ → Option ℕ
else_first (some c) n = some c
else_first none zero = none
else_first none (suc n) = some 0

else_own : (o : Option ℕ) (n c : ℕ) → ((d : ℕ) → o ≡ some d → d < n) → else_first o n ≡ some c → c < n
unfolding else_first
else_own (some d) n c h e = h c e
else_own none zero c h e = let z : ◌≡◌ {A = ℕ} 0 1 = cc in omega arith
else_own none (suc n) c h e = let z : 0 ≡ c = cc in omega arith

else_acts : (o : Option ℕ) (n : ℕ) → 0 < n → (c : ℕ) × (else_first o n ≡ some c)
unfolding else_first
else_acts (some d) n l = (d, refl)
else_acts none zero l = absurd (omega arith)
else_acts none (suc n) l = (0, refl)

-- at a state that is not forced, the move of such a rule stays out of K
avoids : (P : Plan) (K : ℕ → Bool) (t : ℕ) (m : Move) → forced P K t ≡ false → CanMove P t m
    → else_first (choice P K t) (P.commands t) ≡ some m.command → K m.landing ≡ false
unfolding else_first
avoids P K t m free can e = go (choice P K t) refl e
  where
    go : (o : Option ℕ) → choice P K t ≡ o → else_first o (P.commands t) ≡ some m.command → K m.landing ≡ false
    go (some d) q e' = misses P K t m.command m.landing (choice_some P K t m.command (q ∙ e')).2 can.landed
    go none q e' =
        let act = active_of P t can.leaves (omega (arith, can.issued)) in
        clash (forced_of P K t act (choice_none P K t act q)) free

module _ (P : Plan) (s r : ℕ) where
  -- what is taken after a run: after j moves, a command that stays out of layer r - 2 - j
  abbrev evading : Run → Option ℕ
  evading w = choice P (layer P (r - 2 - moves w)) (present s w)

  unfoldable pub delaying : Rule
  delaying w = else_first (evading w) (P.commands (present s w))

  pub delaying_commanding : Commanding P s delaying
  unfolding delaying
  delaying_commanding = record {
    own = λ w c i e.
        else_own (evading w) (P.commands (present s w)) c
        (λ d q. (choice_some P (layer P (r - 2 - moves w)) (present s w) d q).1) e;
    acts = λ w i u a. else_acts (evading w) (P.commands (present s w)) (active_is P (present s w) a).1;
  }

  module _ (is_rank : rank P s ≡ some r) where
    -- after j of at most r - 1 moves the run is not yet in layer r - 1 - j
    later : (w : Run) → IsRun P s w → Under delaying w → moves w < r → layer P (r - 1 - moves w) (present s w) ≡ false
    unfolding present delaying
    later no_moves i u l = (rank_some P s r is_rank).1 (r - 1 - 0) (omega arith)
    later (w ▸ m) i u l =
        let below = later w i.0 u.0 (omega arith) in
        let q : r - 1 - moves w ≡ suc (r - 2 - moves w) = omega arith in
        let q' : r - 1 - suc (moves w) ≡ r - 2 - moves w = omega arith in
        let free = not_forced P (r - 2 - moves w) (present s w) (rw q at below) in
        rw q' (avoids P (layer P (r - 2 - moves w)) (present s w) m free i.1 u.1)

    pub delaying_survives : 0 < r → Survives P s delaying (λ w. moves w ≤ r - 1)
    delaying_survives pos w i u k = not_failing P (r - 1 - moves w) (present s w) (later w i u (omega arith))

-- ---- the claim

module _ (P : Plan) (S : Valid P) (ranks commands : List ℕ)
    (is_rank : (t : ℕ) → t < P.states → read_entry ranks t ≡ rank P t)
    (is_chosen : (t : ℕ) → t < P.states → read_entry commands t ≡ chosen P t)
    (s : ℕ) (l : s < P.states) where
  pub decided : Decided P ranks commands s
  unfolding lost
  decided = record {
    lost_iff = (
      λ e ρ T. let (r, q) = lost_rank P s (rw (is_rank s l) at e) in (rank_within P s ρ T r q).0,
      λ h. rw (is_rank s l) (⊎_elim (λ e. e) (λ e. absurd (spared e (h rule (commanding e)))) (true_or_false (lost P s))),
    );
    returned = λ e. commanding (kept e);
    holds = λ e w i u k. chosen_holds P S (read_entry commands) is_chosen s l (kept e) w i u;
    within = λ r e ρ T. rank_within P s ρ T r (ranked r e);
    delays = λ r e pos. (delaying P s r, delaying_commanding P s r, delaying_survives P s r (ranked r e) pos);
  }
    where
      rule : Rule
      rule = positional (read_entry commands) s

      ranked : (r : ℕ) → read_entry ranks s ≡ some r → rank P s ≡ some r
      ranked r e = sym (is_rank s l) ∙ e

      kept : read_entry ranks s ≡ none → lost P s ≡ false
      kept e = rank_safe P s (sym (is_rank s l) ∙ e)

      commanding : lost P s ≡ false → Commanding P s rule
      commanding = chosen_commanding P S (read_entry commands) is_chosen s l

      spared : lost P s ≡ false → Fails P s rule → ⊥
      spared = chosen_spared P S (read_entry commands) is_chosen s l
