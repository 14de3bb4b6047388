-- Every command tried from the first place on has an outcome in the set when the loop comes to a place, so the first that has none is it.
use mathlib.Core.Path.{sym, ◌∙◌}
use native.Mathlib.Omega.{arith}
use Rattle.laws.proofs.Tries.{first_next, first_stop}
use Rattle.tables.specs.Listed.{lists_of}
use Rattle.choice.specs.Order.{alone}
use Rattle.choice.proofs.Orders.{tried_some, tried_inside, hit_is}
use Rattle.choice.proofs.Outcomes.{hits_told}
use Rattle.choice.proofs.choosing.choose_from.Goals as goal

pub tries-end-requires : goal.tries-end-requires
tries-end-requires c = omega (arith, c.requires.first_le_end, c.args.lists.now.ready.few_commands)

pub tried_at-requires : goal.tried_at-requires
tried_at-requires c = omega (arith, c.requires.first_le_end, c.args.lists.now.ready.few_commands)

pub unwrap-c-requires : goal.unwrap-c-requires
unwrap-c-requires c =
    let L = lists_of c.args.lists.now in
    tried_some (alone L c.args.span) 0 _ (omega (arith, c.loop-place-test.true, c.tries-end.ensures L)) (c.tried_at.ensures L)

pub overflow_add-span : goal.overflow_add-span
overflow_add-span c =
    let L = lists_of c.args.lists.now in
    omega (
      arith,
      c.requires.first_le_end,
      c.args.lists.now.ready.few_commands,
      tried_inside L c.args.span _ _ (sym c.unwrap-c.ensures ∙ c.tried_at.ensures L) c.requires.first_le_end.0 (c.tries-end.ensures L)
          c.loop-place-test.true,
    )

pub command_hit-requires : goal.command_hit-requires
command_hit-requires c =
    let L = lists_of c.args.lists.now in (
      omega (
        arith,
        c.requires.first_le_end,
        tried_inside L c.args.span _ _ (sym c.unwrap-c.ensures ∙ c.tried_at.ensures L) c.requires.first_le_end.0
            (c.tries-end.ensures L) c.loop-place-test.true,
      ),
      c.requires.first_le_end.2,
    )

pub returns-then-is_none : goal.returns-then-is_none
returns-then-is_none c =
    let L = lists_of c.args.lists.now in
    first_stop c.loop-place.invariant _ (omega (arith, c.loop-place-test.true, c.tries-end.ensures L))
    (hit_is L c.args.span _ _ (sym c.unwrap-c.ensures ∙ c.tried_at.ensures L) _ ∙ hits_told _ _ _ _ c.command_hit.ensures
    ∙ c.if-is_none.ensures)

pub loop-place-preserved : goal.loop-place-preserved
loop-place-preserved c =
    let L = lists_of c.args.lists.now in
    first_next c.loop-place.invariant
    (hit_is L c.args.span _ _ (sym c.unwrap-c.ensures ∙ c.tried_at.ensures L) _ ∙ hits_told _ _ _ _ c.command_hit.ensures
    ∙ c.if-is_none.ensures)
