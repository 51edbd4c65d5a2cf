use Rattle.steps.proofs.Leading.{Ahead}
use Rattle.steps.proofs.row.highest_vote.Given as goal

abbrev pub invariant-loop-i : goal.invariant-loop-i
invariant-loop-i g l = Ahead g.K.Kind.means l.row.entries l.i l.highest l.holder
