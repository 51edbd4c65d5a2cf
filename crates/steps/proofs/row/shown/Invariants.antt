use Rattle.std.proofs.Common.{min}
use Rattle.steps.proofs.Choosing.{Sofar}
use Rattle.steps.proofs.row.shown.Given as goal

abbrev pub invariant-loop-e : goal.invariant-loop-e
invariant-loop-e g l = Sofar g.K.Kind.means (g.Q.QuorumRule.means.chooses l.rule) l.row.entries (min l.n 7) l.e-index l.choice
