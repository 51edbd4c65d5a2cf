use Rattle.std.proofs.Common.{◌≡◌, arith}
use Rattle.model.specs.Sets.{member}
use Rattle.posts.specs.Stocking.{stocking_more, puts_stocked}
use Rattle.posts.proofs.shelf.Shelf.fill.Goals as goal

pub loop-q-preserved : goal.loop-q-preserved
loop-q-preserved c = stocking_more _ _ _ c.args.frame.fits _ _ _ c.loop-q.invariant c.offer.ensures

pub returns-clause-puts : goal.returns-clause-puts
returns-clause-puts c =
    let all : c.loop-q.q ≡ 8 = omega arith in
    puts_stocked c.args.self.now c.args.frame.bytes.now (member c.args.to) _ _ all c.loop-q.invariant _ c.args.frame.fits (rw all c.count.ensures.by_members)
