-- A sound plan's own start is a state and the tables are long enough, so that the search answers, and its line is put.
use native.Mathlib.Omega.{arith}
use mathlib.Core.Path.{ap, sym, ◌∙◌}
use mathlib.Core.Bool.{Bool}
use Prim.Native.Nat.{ℕ}
use Rattle.model.specs.Calls.{AfterSearch}
use Rattle.model.specs.Search as Model
use Rattle.model.specs.Held.{plan_in}
use Rattle.tables.specs.Meaning.{lent}
use Rattle.search.specs.declared.Found.{Found}
use Rattle.listing.proofs.Answered.{answers, answer}
use Rattle.listing.proofs.Found.{start_small, finds, few_rounds}
use Rattle.listing.proofs.plan.list_start.Goals as goal

pub unwrap-found-requires : goal.unwrap-found-requires
unwrap-found-requires c =
    let p = c.args.checked.now in
    answers (λ (f : Found). (f.lost, f.rounds)) _ (ap (λ (x : AfterSearch). x.answers) c.search.ensures.call ∙ finds (lent p.plan) p.sounds (omega arith, omega arith))

pub put_start_line-requires : goal.put_start_line-requires
put_start_line-requires c =
    let p = c.args.checked.now in
    let same = answer (λ (f : Found). (f.lost, f.rounds)) (ap (λ (x : AfterSearch). x.answers) c.search.ensures.call ∙ finds (lent p.plan) p.sounds (omega arith, omega arith))
    c.unwrap-found.ensures in
    (c.requires, start_small (lent p.plan) p.sounds, few_rounds (lent p.plan) p.sounds same)

pub returns : goal.returns
returns c =
    let p = c.args.checked.now in
    let same = answer (λ (f : Found). (f.lost, f.rounds)) (ap (λ (x : AfterSearch). x.answers) c.search.ensures.call ∙ finds (lent p.plan) p.sounds (omega arith, omega arith))
    c.unwrap-found.ensures in
    c.put_start_line.ensures.wrote (Model.search (plan_in (lent p.plan)) p.plan.size.start)
    (sym (ap (λ (x : Bool × ℕ). x.0) same)) (sym (ap (λ (x : Bool × ℕ). x.1) same))
