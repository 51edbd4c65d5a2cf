use Rattle.std.proofs.Common.{Ok, Err, refl, ◌∙◌, w32, to_z, of_z}
use Rattle.std.proofs.lemmas.Int.{to_z-of_z}
use Rattle.machine.specs.Board.{makes}
use Rattle.register.specs.State.{board, turn}
use Rattle.machine.proofs.Growing.{accepts_grow, from_row}
use Rattle.machine.proofs.Steps.{at_turn}
use Rattle.register.proofs.register.Register.accept.Goals as goal

pub returns-in-Ok : goal.returns-in-Ok
returns-in-Ok g c =
    let m = makes g.K.Kind.means g.Q.QuorumRule.means g.P.Post.means g.S.Store.means in
    let x = board c.args.self.now c.args.rows.now c.args.store.now c.args.post.now in
    let y = board c.vote.new.self c.vote.new.rows c.vote.new.store c.vote.new.post in
    let b = to_z w32 (of_z w32 c.ballot.result) in
    let does = at_turn m x y (turn c.args.round) c.participant.result c.cell.result b c.args.v (Ok c.in-Ok.answer) c.participant.ensures c.cell.ensures
    (to_z-of_z w32 c.ballot.result (record { sfits = c.ballot.type_inv }) ∙ c.ballot.ensures) c.in-Ok.ensures in
    record {
      does = does;
      grows = accepts_grow m g.met.K.Kind.lawful turn x y c.args.round c.args.v (Ok c.in-Ok.answer) does;
      shown = from_row m g.met.K.Kind.lawful turn x y c.args.round c.args.v (Ok c.in-Ok.answer) does;
    }

pub returns-in-Err : goal.returns-in-Err
returns-in-Err g c =
    let m = makes g.K.Kind.means g.Q.QuorumRule.means g.P.Post.means g.S.Store.means in
    let x = board c.args.self.now c.args.rows.now c.args.store.now c.args.post.now in
    let y = board c.vote.new.self c.vote.new.rows c.vote.new.store c.vote.new.post in
    let b = to_z w32 (of_z w32 c.ballot.result) in
    let votes = at_turn m x y (turn c.args.round) c.participant.result c.cell.result b c.args.v (Err c.in-Err.fault) c.participant.ensures c.cell.ensures
    (to_z-of_z w32 c.ballot.result (record { sfits = c.ballot.type_inv }) ∙ c.ballot.ensures) c.in-Err.ensures in
    record {
      does = (refl, votes);
      grows = accepts_grow m g.met.K.Kind.lawful turn x y c.args.round c.args.v (Err (c.in-Err.fault, c.args.round)) (refl, votes);
      shown = tt;
    }
