-- First outcomes and outcomes that are filled with commands, whatever these are read from: what is left to write, and where the tables end.
use mathlib.Core.Path.{◌≡◌, refl, sym, ap, ◌∙◌}
use mathlib.Core.List.{List, [], ◌∷◌, ◌++◌}
use Prim.Native.Nat.{ℕ, ◌+◌}
use native.Mathlib.Omega.{arith}
use native.Mathlib.Nat.{add-zero}
use lib.ListN.{length, set, length-append}
use Rattle.laws.specs.Lists.{joined}
use Rattle.laws.specs.Writes.{put_all}
use Rattle.laws.proofs.Joins.{joined_append, length_joined}
use Rattle.laws.proofs.Parts.{length_heads, heads_append}
use Rattle.laws.proofs.Writes.{length_put, put_append}
use Rattle.model.specs.Tables.{firsts_from}
use Rattle.model.proofs.Layouts.{by_command_lem}

-- the filling has come to place m of the firsts and t of the outcomes; when the commands left are written it has come to M and N, and the
-- tables are F and O
pub record Filling (F O : List ℕ) (M N : ℕ) (firsts outs : List ℕ) (m t : ℕ) (cs : List (List ℕ)) : Type 0 where
  pub put_firsts : put_all firsts m (firsts_from t cs) ≡ F
  pub put_outs : put_all outs t (joined cs) ≡ O
  pub in_firsts : m + length cs ≡ M
  pub in_outs : t + length (joined cs) ≡ N

pub filling_start : (firsts outs : List ℕ) (m t : ℕ) (cs : List (List ℕ))
    → Filling (put_all firsts m (firsts_from t cs)) (put_all outs t (joined cs)) (m + length cs) (t + length (joined cs)) firsts outs m t cs
filling_start firsts outs m t cs = record { put_firsts = refl; put_outs = refl; in_firsts = refl; in_outs = refl }

module _ {F O : List ℕ} {M N : ℕ} {firsts outs : List ℕ} {m t : ℕ} where
  -- the tables are as long as they will be
  pub filling_long : {cs : List (List ℕ)} → Filling F O M N firsts outs m t cs → (length firsts ≡ length F) × (length outs ≡ length O)
  filling_long {cs} f = (
    sym (length_put firsts m (firsts_from t cs)) ∙ ap length f.put_firsts,
    sym (length_put outs t (joined cs))
        ∙ ap length f.put_outs,
  )

  -- one command is written
  pub filling_next : (os : List ℕ) (cs : List (List ℕ)) → Filling F O M N firsts outs m t (os ∷ cs) → {outs' : List ℕ} → outs'
      ≡ put_all outs t os
      → Filling F O M N (set firsts m t) outs' (m + 1) (t + length os) cs
  unfolding put_all firsts_from joined
  filling_next os cs f o =
      let l = length-append os (joined cs) in
      record {
        put_firsts = f.put_firsts;
        put_outs = rw (o, ← put_append outs t os (joined cs)) f.put_outs;
        in_firsts = omega (arith, f.in_firsts);
        in_outs = omega (arith, f.in_outs);
      }

  -- several are written at once
  pub filling_some : (ds cs : List (List ℕ)) → Filling F O M N firsts outs m t (ds ++ cs) → {firsts' outs' : List ℕ}
      → firsts' ≡ put_all firsts m (firsts_from t ds) → outs' ≡ put_all outs t (joined ds)
      → Filling F O M N firsts' outs' (m + length ds) (t + length (joined ds)) cs
  filling_some ds cs f p o =
      let fs : List ℕ = firsts_from t ds in
      let gs : List ℕ = firsts_from (t + length (joined ds)) cs in
      record {
        put_firsts =
            rw p (ap (λ (z : ℕ). put_all (put_all firsts m fs) (m + z) gs) (sym (length_heads by_command_lem t ds))
            ∙ sym (put_append firsts m fs gs) ∙ ap (put_all firsts m) (sym (heads_append by_command_lem t ds cs)) ∙ f.put_firsts);
        put_outs = rw o (sym (put_append outs t (joined ds) (joined cs)) ∙ ap (put_all outs t) (sym (joined_append ds cs)) ∙ f.put_outs);
        in_firsts = omega (arith, f.in_firsts, length-append ds cs);
        in_outs = omega (arith, f.in_outs, length_joined ds cs);
      }

  -- nothing is left
  pub filling_end : Filling F O M N firsts outs m t [] → (firsts ≡ F) × (outs ≡ O) × (m ≡ M) × (t ≡ N)
  unfolding put_all firsts_from joined
  filling_end f = (f.put_firsts, f.put_outs, sym (add-zero m) ∙ f.in_firsts, sym (add-zero t) ∙ f.in_outs)
