use Rattle.std.proofs.Common.{ltb}
use Rattle.model.specs.Sets.{member}
use Rattle.posts.specs.Meaning.{waiting}
use Rattle.posts.proofs.Members.{Weeding}
use Rattle.posts.proofs.quota.Quota.open_to.Given as goal

abbrev pub invariant-loop-q : goal.invariant-loop-q
invariant-loop-q g l =
    Weeding (member l.to) (λ p. ltb (waiting p (g.P.Post.means.items l.self.below)) l.self.most) l.q l.open
