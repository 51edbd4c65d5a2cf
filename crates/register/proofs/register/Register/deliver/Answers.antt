use Rattle.std.proofs.Common.{◌≡◌, Some, take, subst, rules}
use Rattle.machine.specs.Board.{makes}
use Rattle.register.specs.State.{board}
use Rattle.machine.specs.Calls.{Receives}
use Rattle.posts.specs.Meaning.{Takes}
use Rattle.machine.proofs.Steps.{delivered, less_nothing}
use Rattle.register.proofs.register.Register.deliver.Goals as goal

pub returns-clause-does : goal.returns-clause-does
returns-clause-does g c =
    let m = makes g.K.Kind.means g.Q.QuorumRule.means g.P.Post.means g.S.Store.means in
    let x = board c.args.self.now c.args.rows.now c.args.store.now c.args.post.now in
    let z = board c.args.self.now c.args.rows.now c.args.store.now c.take.new.self in
    let y = board c.receive.new.self c.receive.new.rows c.receive.new.store c.receive.new.post in
    let len = c.in_ok-len.len in
    let got : c.take.result ≡ Some len = search rules in
    delivered m x y c.args.q c.args.k c.args.buffer.now c.take.new.out c.receive.result
    (record {
      open_door = c.in_ok-check_participant.ensures.0;
      long = len;
      post = c.take.new.self;
      takes = subst (λ r. Takes g.P.Post.means c.args.post.now c.args.q c.args.k c.args.buffer.now r c.take.new.self c.take.new.out) got c.take.ensures;
      receives = subst (λ k. Receives m z c.args.q (take k c.take.new.out) c.receive.result y) (less_nothing len) c.receive.ensures.does;
    })
