-- What both propagations of a sound plan leave, from what was read off its rows.
use mathlib.Core.Path.{◌≡◌, refl, ◌∙◌}
use mathlib.Core.List.{List}
use Prim.Native.Nat.{ℕ, ◌<◌, ◌≤◌}
use native.Mathlib.Omega.{arith}
use lib.ListN.{length, get_or}
use Rattle.laws.specs.Filled.{Filled}
use Rattle.laws.proofs.Fills.{filled_over, filled_of}
use Rattle.model.specs.Tables.{Lists, lists_in}
use Rattle.tables.specs.declared.sound_plan.SoundPlan.{SoundPlan}
use Rattle.tables.specs.Meaning.{lent}
use Rattle.tables.specs.Spans.{span_at}
use Rattle.propagate.specs.Net.{net_of}
use Rattle.nets.specs.Nets.{seed_of, Initialized}
use Rattle.nets.specs.Found.{depth_table, copied, PracticeFound, Found}
use Rattle.nets.proofs.Depths.{filled_past, depths_filled, ranks_found, fails_found}

module _ (p : SoundPlan) where
  abbrev n : ℕ
  n = p.plan.size.n

  abbrev C : Lists
  C = lists_in (lent p.plan)

  pub found : {rs ts ms ss ws r w t m r' t' m' s' : List ℕ} → n ≤ length rs → n ≤ length ms
      → Initialized (lent p.plan) n rs ws ts ms r w t m → r' ≡ depth_table (net_of n C w t) r → PracticeFound n C r t m t' m'
      → Filled n (λ i. get_or s' i 0) ss s' → Found (lent p.plan) rs ts ms ss r' t' m' s'
  found {r = r} {w = w} {t = t} {m = m} {t' = t'} lr lm v a f z =
      let long : n ≤ length m = omega (arith, v.placed.same) in
      let again : Filled n (λ s. get_or r s 0) m (copied n r m) = filled_of long refl in
      let sown : (s : ℕ) → s < n → get_or (copied n r m) s 0 ≡ seed_of (span_at (lent p.plan) s) = λ s l. again.low s l ∙ v.seeded.low s l in
      let wide : n ≤ length (copied n r m) = omega (arith, again.same) in
      record {
        ranked = filled_over v.seeded (ranks_found p r (omega (arith, v.seeded.same)) v.seeded.low w t a v.begins.low v.stops.low);
        failed = fails_found p (copied n r m) wide sown f.froms t' f.failed
            (λ s l. f.begins s l ∙ v.placed.low s l) (λ s l. f.stops.low s l ∙ rw (v.placed.low s l, v.stops.low s l));
        fails_past = filled_over v.placed (filled_over again (depths_filled p (copied n r m) wide sown f.froms t' f.failed));
        tos_past = filled_past (filled_over v.stops f.stops);
        scratch_past = z;
      }
