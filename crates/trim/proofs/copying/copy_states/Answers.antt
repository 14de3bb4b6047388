-- The loop holds that what is left to write are the trimmed states from i on; each turn writes one of them.
use mathlib.Core.Path.{ap, ◌∙◌}
use Prim.Native.Nat.{◌<◌, ◌≤◌}
use native.Mathlib.Omega.{arith}
use lib.ListN.{length}
use Rattle.laws.specs.Lists.{joined}
use Rattle.model.specs.Tables.{all_commands}
use Rattle.model.specs.Trim.{trim_tree}
use Rattle.model.proofs.TrimGood.{trim_good}
use Rattle.tables.specs.declared.Row.{Row}
use Rattle.tables.specs.Meaning.{row_of}
use Rattle.tables.proofs.SoundPlans.{plan_ready, plan_rows}
use Rattle.trim.specs.Kept.{row_after}
use Rattle.trim.proofs.KeptStates.{tree_in, StretchOf, kept_good, kept_count, kept_old, kept_inside, kept_stretch}
use Rattle.trim.proofs.LeftStates.{trimmed_commands, trimmed_outcomes}
use Rattle.trim.proofs.Copied.{row_copied, firsts_copied, outcomes_copied}
use Rattle.trim.proofs.CopiedStates.{room_for, copying_rows, copying_firsts, copying_outs, copying_few, copying_room, copying_next, copying_done}
use Rattle.trim.proofs.copying.copy_states.Goals.{After-from-s, After-stretch_at-stretch, Start}
use Rattle.trim.proofs.copying.copy_states.Goals as goal

new_state : (c : After-from-s) → c.loop-i.i < length (trim_tree (tree_in c.args.kept.now)).states
new_state c = omega (arith, c.loop-i-test.true, kept_count c.args.kept.now)

in_plan : (c : After-from-s) → c.from-s.result < c.args.kept.now.checked.now.plan.size.n
in_plan c = omega (arith, c.from-s.ensures, kept_inside c.args.kept.now _ c.loop-i-test.true)

stretch_here : (c : After-stretch_at-stretch) → StretchOf c.args.kept.now c.loop-i.i c.stretch_at-stretch.result
stretch_here c = kept_stretch c.args.kept.now _ c.loop-i-test.true c.from-s.ensures c.stretch_at-stretch.ensures

room : (c : Start)
    → let ss = (trim_tree (tree_in c.args.kept.now)).states in
    (length ss ≤ length c.args.rows2.now) × (length (all_commands ss) ≤ length c.args.firsts2.now)
    × (length (joined (all_commands ss)) ≤ length c.args.outcomes2.now)
room c = room_for (tree_in c.args.kept.now) _ _ _ c.requires.outcomes2_value

pub row_at-requires : goal.row_at-requires
row_at-requires c = omega (arith, in_plan (goal.at.row_at-requires c).After-from-s, plan_rows c.args.kept.now.checked.now)

pub row_after-requires : goal.row_after-requires
row_after-requires c = omega (arith, (copying_few c.loop-i.invariant (kept_good c.args.kept.now)).0)

pub put_row-requires : goal.put_row-requires
put_row-requires c =
    omega (
      arith,
      new_state (goal.at.put_row-requires c).After-from-s,
      (room (goal.at.put_row-requires c).Start).0,
      copying_rows c.loop-i.invariant,
    )

pub stretch_at-stretch-requires : goal.stretch_at-stretch-requires
stretch_at-stretch-requires c = in_plan (goal.at.stretch_at-stretch-requires c).After-from-s

pub copy_firsts-m-requires : goal.copy_firsts-m-requires
copy_firsts-m-requires c =
    let k = c.args.kept.now in
    let here = stretch_here (goal.at.copy_firsts-m-requires c).After-stretch_at-stretch in
    let next = copying_room c.loop-i.invariant (new_state (goal.at.copy_firsts-m-requires c).After-from-s) in
    let all = trim_good (tree_in k) (kept_good k) in
    record {
      first_le_end = (
        here.rises,
        omega (arith, here.below, (plan_ready k.checked.now).long_firsts),
        omega (
          arith,
          here.count,
          trimmed_commands (tree_in k) c.loop-i.i,
          next.0,
          (room (goal.at.copy_firsts-m-requires c).Start).1,
          copying_firsts c.loop-i.invariant,
        ),
      );
      by_index = λ d low high.
          let (begins, ends) = here.each d low high in
          (begins, omega (arith, ends, here.many, trimmed_outcomes (tree_in k) c.loop-i.i, next.1, all.few_outcomes));
    }

pub copy_outcomes-t-requires : goal.copy_outcomes-t-requires
copy_outcomes-t-requires c =
    let k = c.args.kept.now in
    let here = stretch_here (goal.at.copy_outcomes-t-requires c).After-stretch_at-stretch in
    let ready = plan_ready k.checked.now in
    record {
      from_le_to = (
        here.order,
        omega (arith, here.within, ready.states.long),
        omega (
          arith,
          here.many,
          trimmed_outcomes (tree_in k) c.loop-i.i,
          (copying_room c.loop-i.invariant (new_state (goal.at.copy_outcomes-t-requires c).After-from-s)).1,
          (room (goal.at.copy_outcomes-t-requires c).Start).2,
          copying_outs c.loop-i.invariant,
        ),
      );
      by_index = λ j l. omega (arith, ready.states.inside j (omega (arith, here.within)), c.requires.n_in_bounds.0);
    }

pub loop-i-preserved : goal.loop-i-preserved
loop-i-preserved c =
    let k = c.args.kept.now in
    let l = c.loop-i-test.true in
    let d = (goal.at.loop-i-preserved c).After-from-s in
    let here = stretch_here (goal.at.loop-i-preserved c).After-stretch_at-stretch in
    let row = c.row_after.ensures
    ∙ ap (λ (w : Row). row_after w c.loop-i.m) c.row_at.ensures in
    copying_next c.loop-i.invariant (new_state d)
    (ap row_of row ∙ row_copied k _ _ c.loop-i.m (c.from-s.ensures ∙ kept_old k _) (in_plan d))
    c.put_row.ensures
    (rw (firsts_copied k _ here c.loop-i.t) at c.copy_firsts-m.ensures)
    (rw (outcomes_copied k _ here l c.args.numbers.now c.requires.n_in_bounds.1) at c.copy_outcomes-t.ensures)

pub returns : goal.returns
returns c =
    let w = copying_done c.loop-i.invariant (omega (arith, c.loop-i-test.false, kept_count c.args.kept.now)) in
    record { rows = w.0; firsts = w.1.0; outcomes = w.1.1 }
