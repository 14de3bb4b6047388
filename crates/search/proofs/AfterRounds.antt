-- The loop over the rounds: what holds after j of them, the last of which ended so.
use mathlib.Core.Path.{◌≡◌, refl, sym, ◌∙◌}
use mathlib.Core.Bool.{Bool, true, false, cond}
use mathlib.Core.Logic.{⊎_elim}
use mathlib.Core.List.{List}
use mathlib.Core.Option.{Option, none}
use Prim.Native.Nat.{ℕ, suc, ◌+◌, ◌<◌, ◌≤◌}
use native.Mathlib.Numerals.{add-one}
use native.Mathlib.Omega.{arith}
use lib.Dec.{eqb, leb}
use lib.ListN.{length, get_or}
use borrow.Author.Tests.{eq-eqb, ne_eqb}
use Rattle.std.specs.Prelude.{Some, None}
use Rattle.laws.specs.Sets.{grow}
use Rattle.laws.specs.Entry.{FFFF, entry}
use Rattle.laws.specs.Filled.{Filled}
use Rattle.laws.proofs.Tests.{clash, true_or_false}
use Rattle.laws.proofs.Sets.{below_suc}
use Rattle.model.specs.Plan.{Plan, Valid, failing, active}
use Rattle.model.specs.Command.{choice}
use Rattle.model.specs.Search.{reached, marked, known, ends, before, at_once, search}
use Rattle.model.specs.Tables.{Tables}
use Rattle.model.specs.SoundTest.{sound}
use Rattle.model.specs.Held.{plan_in}
use Rattle.model.proofs.StateKinds.{Kind, fails, rests, acts, kind_of, active_stands}
use Rattle.model.proofs.HeldPlan.{states_held}
use Rattle.model.proofs.Searching.{unmarked_is}
use Rattle.model.proofs.Valid.{sound_valid}
use Rattle.tables.specs.Spans.{span_at}
use Rattle.walks.specs.Flags.{known_in}
use Rattle.walks.specs.Spread.{Spread}
use Rattle.search.specs.declared.walk.Progress.{Progress}
use Rattle.search.specs.Past.{Past}
use Rattle.search.specs.Marks.{start_flag, marked_at}
use Rattle.search.specs.Underway.{Underway}
use Rattle.search.specs.Walked.{Walked}
use Rattle.search.specs.Settled.{Cut, Settled}
use Rattle.search.specs.Ends.{Rounded}
use Rattle.search.specs.Tried.{Tried}
use Rattle.search.proofs.ReadStates.{start_flag_is}
use Rattle.search.proofs.Trying.{tried_start, tried_more, settled_known}
use Rattle.search.proofs.WalkSteps.{underway_start}
use Rattle.search.proofs.WalkEnds.{taken, takes_is}
use Rattle.search.proofs.Walking.{Clear, past_then, past_filled, past_spread}
use Rattle.search.proofs.Settling.{settled_as}
use Rattle.search.proofs.Resuming.{resumed, resumed_clear}
use Rattle.search.proofs.RoundEnds.{marked_found, none_marked, marked_late, some_marked, start_told}
use Rattle.search.proofs.LastRound.{known_next, unmarked_ends, start_ends, goes_on_after, not_past, few_rounds, last_lost, last_rounds, last_command}

-- another round is due: a walk with the known set is under way, and no round so far was the last
pub record Due (P : Plan) (n a j h q : ℕ) (cs s u : List ℕ) : Type 0 where
  pub walks : Underway P n (known P a j) a h q cs s u
  pub clear : Clear P (known P a j) h u
  pub fresh : known P a j a ≡ false
  pub unended : (i : ℕ) → i < j → ends P a i ≡ false
  pub act : active P a ≡ true

-- c₀ and s₀ are the tables when the call begins
pub record AfterRounds (P : Plan) (n a : ℕ) (c₀ s₀ : List ℕ) (j h q : ℕ) (cs s u t : List ℕ) : Type 0 where
  pub due : Due P n a j h q cs s u
  pub tried : Tried P n (known_in s) t
  pub commands : Past n c₀ cs
  pub flags : Past n s₀ s

-- ---- before the first round

module _ (T : Tables) (sounds : sound T ≡ true) (a : ℕ) (l : a < T.size.n) {c₋ s₋ cs s₀ : List ℕ}
    (f : Filled T.size.n (λ _. FFFF) c₋ cs)
    (g : Filled T.size.n (λ x. start_flag (span_at T x)) s₋ s₀) where
  first_flag : (x : ℕ) → x < T.size.n → get_or s₀ x 0 ≡ cond (failing (plan_in T) x) 0 1
  first_flag x k = g.low x k ∙ start_flag_is T x k

  pub first_low : (x : ℕ) → x < T.size.n → get_or s₀ x 0 < 2
  first_low x k = rw (first_flag x k) (⊎_elim (λ t. rw t (omega arith)) (λ t. rw t (omega arith)) (true_or_false (failing (plan_in T) x)))

  first_known : (x : ℕ) → x < T.size.n → known_in s₀ x ≡ failing (plan_in T) x
  unfolding known_in
  first_known x k = rw (first_flag x k) (go (failing (plan_in T) x))
    where
      go : (b : Bool) → leb (cond b 0 1) 0 ≡ b
      go true = refl
      go false = refl

  pub rounds_start : {q : ℕ} {s u₀ u : List ℕ} → Spread T.size.n 0 (λ y. eqb y a) 2 s₀ u₀ q s u
      → active (plan_in T) a ≡ true
      → {t : List ℕ} → T.size.n ≤ length t → ((x : ℕ) → x < T.size.n → get_or t x 0 ≡ 0)
      → AfterRounds (plan_in T) T.size.n a c₋ s₋ 0 0 q cs s u t
  unfolding grow
  rounds_start v act long zeros =
      let stands = active_stands (plan_in T) a act in
      record {
        due = record {
          walks = underway_start (plan_in T) a l first_low first_known stands v f;
          clear = λ i k. absurd (omega arith);
          fresh = stands;
          unended = λ i k. absurd (omega arith);
          act = act;
        };
        tried = tried_start long zeros;
        commands = past_filled f;
        flags = past_then (past_filled g) (past_spread v);
      }

  -- without commands the start is lost if it counts as failing, else safe, and no round is walked
  pub rounds_none : active (plan_in T) a ≡ false → (lost : Bool) → lost ≡ failing (plan_in T) a
      → Rounded (plan_in T) T.size.n a c₋ s₋ (record { lost = lost; rounds = 0 }) cs s₀
  unfolding search at_once entry
  rounds_none idle lost e = go (kind_of (plan_in T) a (sound_valid T sounds) (rw (states_held T) l))
    where
      go : Kind (plan_in T) a → Rounded (plan_in T) T.size.n a c₋ s₋ (record { lost = lost; rounds = 0 }) cs s₀
      go (fails failed r i) = record {
        verdict = rw failed (e ∙ failed);
        counted = rw failed;
        safe = λ z. clash (e ∙ failed) z;
        lost = λ z x. rw failed;
        commands_past = past_filled f;
        scratch_past = past_filled g;
      }
      go (rests stands r i) = record {
        verdict = rw (stands, r) (e ∙ stands);
        counted = rw (stands, r);
        safe = λ z x k. f.low x k ∙ rw (stands, r);
        lost = λ z. clash z (e ∙ stands);
        commands_past = past_filled f;
        scratch_past = past_filled g;
      }
      go (acts stands r i) = clash i idle

-- ---- a round that is due

module _ (T : Tables) (sounds : sound T ≡ true) {a j h q : ℕ} (l : a < T.size.n) {cs s u : List ℕ}
    (d : Due (plan_in T) T.size.n a j h q cs s u) where
  abbrev P : Plan
  P = plan_in T

  abbrev K : ℕ → Bool
  K = known (plan_in T) a j

  S : Valid P
  S = sound_valid T sounds

  in_plan : {x : ℕ} → x < T.size.n → x < P.states
  in_plan k = rw (states_held T) k

  pub due_before : j ≤ before P a
  due_before = not_past P S a (in_plan l) d.act j d.unended

  pub due_few : j < T.size.n
  due_few = rw (states_held T) at (few_rounds P S a (in_plan l) d.act j d.unended)

  -- the round was walked
  module _ {r : Progress} {cs₁ s₁ u₁ : List ℕ} (w : Walked P T.size.n K a r cs₁ s₁ u₁) where
    -- at the round's end the start is known exactly if it was marked
    start_next : known P a (suc j) a ≡ marked P K a a
    start_next = known_next P a j a ∙ rw d.fresh

    took : known P a (suc j) a ≡ false → ends P a j ≡ true → (x : ℕ) → taken P K a x ≡ entry ((search P a).command x)
    unfolding taken entry
    took open_start last x =
        rw (last_command P S a (in_plan l) d.act j d.unended last x, open_start) (go (reached P K a x) (choice P K x))
      where
        go : (b : Bool) (o : Option ℕ) → cond b (entry o) FFFF ≡ entry (cond b o none)
        go true o = refl
        go false o = refl

    -- the tables are as they were when the loop began, but for the places of the states
    module _ {c₀ s₀ t : List ℕ} (v : AfterRounds P T.size.n a c₀ s₀ j h q cs s u t)
        (pc : Past T.size.n cs cs₁) (ps : Past T.size.n s s₁) where
      -- there are no marks
      pub rounds_safe : r.low ≡ None → Rounded P T.size.n a c₀ s₀ (record { lost = false; rounds = j + 1 }) cs₁ s₁
      rounds_safe e =
          let unmarked = none_marked T sounds a j w e in
          let last = unmarked_ends P a j unmarked in
          let open_start : known P a (suc j) a ≡ false = start_next ∙ unmarked_is P a j unmarked a (in_plan l) in
          record {
            verdict = sym (last_lost P S a (in_plan l) d.act j d.unended last ∙ open_start);
            counted = add-one j ∙ sym (last_rounds P S a (in_plan l) d.act j d.unended last);
            safe = λ _ x k. takes_is w.done S (states_held T) (omega arith) x k ∙ took open_start last x;
            lost = λ z. clash z refl;
            commands_past = past_then v.commands pc;
            scratch_past = past_then v.flags ps;
          }

      -- the start is marked
      pub rounds_lost : get_or cs₁ a 0 ≡ FFFF → Rounded P T.size.n a c₀ s₀ (record { lost = true; rounds = j + 1 }) cs₁ s₁
      unfolding entry
      rounds_lost e =
          let now_known : known P a (suc j) a ≡ true = start_next ∙ sym (start_told T sounds a j w d.act) ∙ eq-eqb _ _ e in
          let last = start_ends P a j now_known in
          record {
            verdict = sym (last_lost P S a (in_plan l) d.act j d.unended last ∙ now_known);
            counted = add-one j ∙ sym (last_rounds P S a (in_plan l) d.act j d.unended last);
            safe = λ z. clash refl z;
            lost = λ _ x. sym (rw (last_command P S a (in_plan l) d.act j d.unended last x, now_known));
            commands_past = past_then v.commands pc;
            scratch_past = past_then v.flags ps;
          }

      -- neither, and the last places were settled
      module _ (low : ℕ) (is : r.low ≡ Some low) (z : get_or cs₁ a 0 ≡ FFFF → ⊥) {q' : ℕ} (c : Cut low q' r.reached s₁ u₁) {cs₂ s₂ : List ℕ}
          (y : Settled q' r.reached (λ x. marked_at (span_at T x) cs₁ s₁ x) u₁ cs₁ s₁ cs₂ s₂) where
        due_next : Due P T.size.n a (suc j) low q' cs₂ s₂ u₁
        unfolding grow
        due_next =
            let (place, loud) = some_marked T sounds a j w low is in
            let unmarked : marked P K a a ≡ false = sym (start_told T sounds a j w d.act) ∙ ne_eqb _ _ z in
            let late = marked_late T sounds a j w low is in
            let settled = settled_as w.done.queued (marked_found T sounds a j w) y in
            record {
              walks = resumed w.done S (states_held T) low place late unmarked c settled;
              clear = resumed_clear w.done S (states_held T) low place late unmarked c settled w.lowest is;
              fresh = start_next ∙ unmarked;
              unended = below_suc (λ i. ends P a i ≡ false) j d.unended (goes_on_after P a j loud (start_next ∙ unmarked));
              act = d.act;
            }

        -- a place that is past the states was not settled
        beyond : (x : ℕ) → T.size.n ≤ x → (get_or s₂ x 0 ≡ get_or s₁ x 0) × (get_or cs₂ x 0 ≡ get_or cs₁ x 0)
        beyond x k = y.kept x (λ i b m e. omega (arith, w.done.queued.states i m))

        pub rounds_next : {t₁ : List ℕ} → Tried P T.size.n (known_in s₁) t₁ → AfterRounds P T.size.n a c₀ s₀ (j + 1) low q' cs₂ s₂ u₁ t₁
        rounds_next k = rw (add-one j) (record {
          due = due_next;
          tried = tried_more (settled_known w.done.queued y) k;
          commands =
              past_then (past_then v.commands pc) (record { same = y.same_commands; low = λ x k. refl; high = λ x k. (beyond x k).1 });
          flags = past_then (past_then v.flags ps) (record { same = y.same_flags; low = λ x k. refl; high = λ x k. (beyond x k).0 });
        })
