use Rattle.std.proofs.Common.{◌≡◌, length}
use Rattle.machine.specs.Board.{makes}
use Rattle.machine.specs.Starts.{FirstRows}
use Rattle.register.proofs.register.Register.reload_all.Given as goal

abbrev pub invariant-loop-p : goal.invariant-loop-p
invariant-loop-p g l = (length l.rows ≡ length l.initial.rows) × FirstRows (makes g.K.Kind.means g.Q.QuorumRule.means g.P.Post.means g.S.Store.means) l.p l.size.cells l.store l.rows
