use Rattle.std.proofs.Common.{◌∙◌}
use Rattle.machine.specs.Board.{makes}
use Rattle.machine.proofs.Reloading.{first_rows_more}
use Rattle.register.proofs.register.Register.reload_all.Goals as goal

pub loop-p-preserved : goal.loop-p-preserved
loop-p-preserved g c = (
  c.reload.ensures.long ∙ c.loop-p.invariant.0,
  first_rows_more (makes g.K.Kind.means g.Q.QuorumRule.means g.P.Post.means g.S.Store.means) c.args.store.now c.args.size.cells c.loop-p.p c.loop-p.rows c.reload.new.rows c.loop-p.invariant.1 c.reload.ensures,
)
