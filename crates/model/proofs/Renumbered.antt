-- A plan that is part of another, under other numbers, as a trimmed plan is: its states have their old verdicts, ranks and chosen commands.
use mathlib.Core.Path.{◌≡◌, sym, ap, ap₂, ◌∙◌}
use mathlib.Core.Bool.{Bool, not, cond, ◌&&◌, ◌||◌}
use mathlib.Core.List.{map, map-map, Memᴰ}
use mathlib.Core.Option.{Option, none}
use Prim.Native.Nat.{ℕ, zero, suc, ◌<◌}
use native.Mathlib.Omega.{arith}
use lib.Dec.{eqb, ltb}
use Rattle.laws.specs.Sets.{any, every, first, grow}
use Rattle.laws.proofs.Sets.{first_some, first_same}
use Rattle.laws.proofs.Agree.{every_same, any_same}
use Rattle.laws.proofs.Maps.{map_is, map_same, any_map}
use Rattle.model.specs.Plan.{Plan, Valid, ordinary, failing, failing_at, active, has_practice}
use Rattle.model.specs.Verdict.{hits, forced, layer, rank, lost, safe}
use Rattle.model.specs.Command.{try_order, choice, chosen}
use Rattle.model.proofs.Choices.{tried_command, hits_any}
use Rattle.model.proofs.SameLayers.{layers_rank, layers_verdict}

-- Q is part of P: its state i is the state `old i` of P, and `new` gives an outcome its number in Q
pub record PartOf (Q P : Plan) (old new : ℕ → ℕ) : Type 0 where
  pub inside : (i : ℕ) → i < Q.states → old i < P.states
  pub kinds : (i : ℕ) → i < Q.states → Q.kind i ≡ P.kind (old i)
  pub counts : (i : ℕ) → i < Q.states → Q.commands i ≡ P.commands (old i)
  pub practices : (i : ℕ) → i < Q.states → Q.practice i ≡ P.practice (old i)
  pub outcomes : (i c : ℕ) → i < Q.states → Q.outcomes i c ≡ map new (P.outcomes (old i) c)
  -- its commands stay in it
  pub back : (i c x : ℕ) → i < Q.states → c < Q.commands i → Memᴰ x (P.outcomes (old i) c) → (new x < Q.states) × (old (new x) ≡ x)

-- below n, the members of A are those of B under their old numbers
abbrev AgreeAt : ℕ → (ℕ → ℕ) → (ℕ → Bool) → (ℕ → Bool) → Type 0
AgreeAt n old A B = (x : ℕ) → x < n → A x ≡ B (old x)

-- ---- one state

module _ {Q P : Plan} {old new : ℕ → ℕ} (r : PartOf Q P old new) (i : ℕ) (l : i < Q.states) where
  -- it counts as what the old one does
  part_ordinary : ordinary Q i ≡ ordinary P (old i)
  unfolding ordinary
  part_ordinary = ap (λ (k : ℕ). eqb k 0) (r.kinds i l)

  part_failing : failing Q i ≡ failing P (old i)
  unfolding failing
  part_failing = ap₂ (λ (kind count : ℕ). failing_at kind count) (r.kinds i l) (r.counts i l)

  part_active : active Q i ≡ active P (old i)
  unfolding active
  part_active = ap₂ (λ (o : Bool) (n : ℕ). o && ltb 0 n) part_ordinary (r.counts i l)

  part_practice : has_practice Q i ≡ has_practice P (old i)
  unfolding has_practice
  part_practice = ap₂ (λ (p n : ℕ). ltb p n) (r.practices i l) (r.counts i l)

  -- commands are tried in the same order
  part_order : try_order Q i ≡ try_order P (old i)
  unfolding try_order
  part_order = rw (part_practice, r.practices i l, r.counts i l)

  -- its outcomes are the same under their old numbers
  pub part_outcomes : (c : ℕ) → c < Q.commands i → map old (Q.outcomes i c) ≡ P.outcomes (old i) c
  part_outcomes c k =
      let os = P.outcomes (old i) c in
      ap (map old) (r.outcomes i c l) ∙ map-map old new os ∙ map_same (λ x. old (new x)) os (λ x m. (r.back i c x l k m).1)

  module _ (A B : ℕ → Bool) (h : AgreeAt Q.states old A B) where
    -- of sets that agree: outcomes in them, and the command that keeps out of them
    part_hits : (c : ℕ) → c < Q.commands i → hits Q A i c ≡ hits P B (old i) c
    part_hits c k =
        hits_any Q A i c ∙ ap (any A) (r.outcomes i c l) ∙ any_map A new (P.outcomes (old i) c)
        ∙ any_same (λ x. A (new x)) B (P.outcomes (old i) c) (λ x m. let (n, q) = r.back i c x l k m in h (new x) n ∙ ap B q)
        ∙ sym (hits_any P B (old i) c)

    part_forced : forced Q A i ≡ forced P B (old i)
    unfolding forced
    part_forced =
        ap₂ (λ (a b : Bool). a && b) part_active
        (every_same (hits Q A i) (hits P B (old i)) (Q.commands i) part_hits ∙ ap (every (hits P B (old i))) (r.counts i l))

    part_choice : choice Q A i ≡ choice P B (old i)
    unfolding choice
    part_choice =
        ap₂ (λ (a : Bool) (o : Option ℕ). cond a o none) part_active
        (first_same keeps keeps' (try_order Q i) (λ c m e. agree c m ∙ e)
        (λ c e. let (m, k) = first_some keeps (try_order Q i) c e in sym (agree c m) ∙ k)
        ∙ ap (first keeps') part_order)
      where
        keeps : ℕ → Bool
        keeps c = not (hits Q A i c)

        keeps' : ℕ → Bool
        keeps' c = not (hits P B (old i) c)

        agree : (c : ℕ) → Memᴰ c (try_order Q i) → keeps c ≡ keeps' c
        agree c m = ap not (part_hits c (tried_command Q i c m))

-- ---- layers, and what comes of them

module _ {Q P : Plan} {old new : ℕ → ℕ} (r : PartOf Q P old new) where
  -- the layers are the same, under their old numbers
  part_layer : (k : ℕ) → AgreeAt Q.states old (layer Q k) (layer P k)
  unfolding grow
  part_layer zero = part_failing r
  part_layer (suc k) = λ i l. ap₂ (λ (a b : Bool). a || b) (part_layer k i l) (part_forced r i l (layer Q k) (layer P k) (part_layer k))

  module _ (S : Valid P) where
    -- the part is a plan as well
    pub part_valid : Valid Q
    part_valid = record {
      kinds = λ i l. rw (r.kinds i l) (S.kinds (old i) (r.inside i l));
      idle = λ i c l k. r.kinds i l ∙ S.idle (old i) c (r.inside i l) (omega (arith, r.counts i l));
      inside = λ i c x l k out.
          let (y, m, q) = map_is new (P.outcomes (old i) c) (rw (r.outcomes i c l) at out) in
          rw q (r.back i c y l k m).0;
    }

    module _ (i : ℕ) (l : i < Q.states) where
      -- the same rank, and so the same verdict
      pub part_rank : rank Q i ≡ rank P (old i)
      part_rank = layers_rank Q P part_valid S i (old i) l (r.inside i l) (λ k. part_layer k i l)

      pub part_lost : lost Q i ≡ lost P (old i)
      part_lost = layers_verdict Q P part_valid S i (old i) l (r.inside i l) (λ k. part_layer k i l)

    -- the same chosen command, by position
    pub part_chosen : (i : ℕ) → i < Q.states → chosen Q i ≡ chosen P (old i)
    unfolding chosen safe
    part_chosen i l = ap₂ (λ (b : Bool) (o : Option ℕ). cond (not b) o none) (part_lost i l) (part_choice r i l (lost Q) (lost P) part_lost)
