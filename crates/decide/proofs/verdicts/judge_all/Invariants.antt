-- The invariant is that the states before s are judged and counted; a turn judges one more.
use Rattle.choice.specs.Within.{members}
use Rattle.decide.specs.Verdicts.{StatesJudged}
use Rattle.model.specs.Held.{plan_in}
use Rattle.tables.specs.Meaning.{lent}
use Rattle.decide.proofs.verdicts.judge_all.Given as goal

abbrev pub invariant-loop-s : goal.invariant-loop-s
invariant-loop-s l = StatesJudged (plan_in (lent l.checked.plan)) (members l.lost) l.s l.initial.commands l.initial.marks l.tally l.commands l.marks
