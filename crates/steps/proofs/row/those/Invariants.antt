use Rattle.std.specs.Fn.{FnReturnsAt}
use Rattle.steps.specs.Rows.{numbers_at}
use Rattle.steps.proofs.Marked.{Marked}
use Rattle.steps.proofs.row.those.Given as goal

abbrev pub invariant-loop-i : goal.invariant-loop-i
invariant-loop-i g l = Marked (λ j. FnReturnsAt g.F.Fn l.passes (numbers_at l.row.entries j)) l.i l.set
