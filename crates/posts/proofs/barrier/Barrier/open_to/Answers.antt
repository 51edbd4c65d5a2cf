use Rattle.std.proofs.Common.{rules}
use Rattle.posts.proofs.Members.{member_without}
use Rattle.posts.proofs.barrier.Barrier.open_to.Goals as goal

pub returns : goal.returns
returns g c = member_without c.args.to c.args.self.now.shut c.ranges.to.fits (search rules)
