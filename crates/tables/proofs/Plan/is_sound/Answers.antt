-- The test is the model's, part after part: the first that fails makes it fail, and what has passed puts the next one's indices in range.
use mathlib.Core.Path.{sym, ◌∙◌}
use Rattle.tables.proofs.SoundParts.{sound_parts, starts_at, starts_past, some_state, told}
use Rattle.tables.proofs.LongTest.{all_long}
use mathlib.Core.Bool.{and-false}
use Rattle.tables.proofs.Plan.is_sound.Goals as goal

pub returns-then-not-size_sound : goal.returns-then-not-size_sound
returns-then-not-size_sound c =
    let w = told _ (rw (sound_parts _) (simp (sym c.size_sound.ensures ∙ c.if-not-size_sound.true))) in record { computed = w.0; meant = w.1 }

pub returns-then-not-long : goal.returns-then-not-long
returns-then-not-long c =
    let w = told _ (rw (sound_parts _) (simp (sym c.long.ensures ∙ c.if-not-long.true, and-false))) in record { computed = w.0; meant = w.1 }

pub span_at-span-requires : goal.span_at-span-requires
span_at-span-requires c =
    let R = c.args.self.now.rows.now in (
      some_state _ (sym c.size_sound.ensures ∙ c.if-not-size_sound.false),
      (all_long _ R _ _ (sym c.long.ensures ∙ c.if-not-long.false)).0,
    )

pub returns-then-span-ne0 : goal.returns-then-span-ne0
returns-then-span-ne0 c =
    let a = c.args.self.now in
    let w = told _ (rw (sound_parts _)
    (simp (starts_past _ _ (c.span_at-span.ensures a.firsts.now a.outcomes.now) c.if-span-ne0.true, and-false))) in record { computed = w.0; meant = w.1 }

pub rows_sound-requires : goal.rows_sound-requires
rows_sound-requires c =
    let R = c.args.self.now.rows.now in
    (all_long _ R _ _ (sym c.long.ensures ∙ c.if-not-long.false)).0

pub returns-then-not-rows_sound : goal.returns-then-not-rows_sound
returns-then-not-rows_sound c =
    let a = c.args.self.now in
    let w = told _ (rw (sound_parts _)
    (simp (sym c.rows_sound.ensures ∙ c.if-not-rows_sound.true, and-false))) in record { computed = w.0; meant = w.1 }

pub invariant_of-lists : goal.invariant_of-lists
invariant_of-lists c =
    let R = c.args.self.now.rows.now in
    let tables_long = all_long _ R _ _ (sym c.long.ensures ∙ c.if-not-long.false) in
    record { long = (tables_long.1, tables_long.2) }

pub returns : goal.returns
returns c =
    let a = c.args.self.now in
    let w = told _ (rw (sound_parts _)
    (rw (
      sym c.size_sound.ensures ∙ c.if-not-size_sound.false,
      sym c.long.ensures ∙ c.if-not-long.false,
      starts_at _ _ (c.span_at-span.ensures a.firsts.now a.outcomes.now) c.if-span-ne0.false,
      sym c.rows_sound.ensures ∙ c.if-not-rows_sound.false,
    )
    c.lists_sound.ensures)) in record { computed = w.0; meant = w.1 }
