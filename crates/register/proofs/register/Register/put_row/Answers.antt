use Rattle.std.proofs.Common.{ℕ, List, take, drop, replicate, ap, ◌∙◌, subst}
use Rattle.frames.specs.Layout.{laid_out}
use Rattle.model.specs.Sets.{member}
use Rattle.posts.specs.Meaning.{Puts}
use Rattle.machine.proofs.Steps.{cut_frame}
use Rattle.register.proofs.register.Register.put_row.Goals as goal

pub returns : goal.returns
returns g c =
    let row = take c.args.self.now.size.n c.args.row.now.entries in
    let frame : ℕ → List ℕ = λ k. laid_out (record { sort = c.args.sort; n = c.args.self.now.size.n; sender = c.args.p; kind = k; to = c.args.to; cell = c.args.c }) row in
    let w = c.write-len.ensures in
    let cut = cut_frame c.write-len.new.out (frame c.NUMBER.result) (drop c.write-len.result (replicate 88 0)) c.write-len.result w.buffer w.whole in
    subst (λ f. Puts g.P.Post.means c.args.post.now f (member c.args.to) c.put.result c.put.new.self) (cut ∙ ap frame (c.NUMBER.ensures ∙ g.met.K.Kind.numbered)) c.put.ensures
