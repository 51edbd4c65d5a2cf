use Rattle.std.proofs.Common.{refl}
use Rattle.machine.specs.Board.{makes}
use Rattle.register.specs.State.{board}
use Rattle.machine.proofs.Growing.{receives_grow}
use Rattle.machine.proofs.Steps.{received}
use Rattle.register.proofs.Laws.{stand}
use Rattle.register.proofs.register.Register.receive.Goals as goal

pub returns-in_err-frame-clause-grows : goal.returns-in_err-frame-clause-grows
returns-in_err-frame-clause-grows g c = stand c.args.rows.now c.args.rows.now refl

pub returns : goal.returns
returns g c =
    let m = makes g.K.Kind.means g.Q.QuorumRule.means g.P.Post.means g.S.Store.means in
    let x = board c.args.self.now c.args.rows.now c.args.store.now c.args.post.now in
    let y = board c.take_over.new.self c.take_over.new.rows c.take_over.new.store c.take_over.new.post in
    let does = received m x y c.args.q c.args.frame.now c.in_ok-frame.frame c.take_over.result c.in_ok-check_participant.ensures.0 c.in_ok-frame.ensures.answered.reads c.take_over.ensures in
    record { does = does; grows = receives_grow m g.met.K.Kind.lawful x y c.args.frame.now c.args.q c.take_over.result does }
