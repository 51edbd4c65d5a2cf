use Rattle.std.proofs.Common.{rules, arith}
use Rattle.model.specs.Sets.{member}
use Rattle.posts.specs.Filling.{filling_more}
use Rattle.posts.specs.LinesLemmas.{puts_filled}
use Rattle.posts.proofs.line.Line.fill.Goals as goal

pub loop-q-preserved : goal.loop-q-preserved
loop-q-preserved c = filling_more _ _ _ _ _ _ c.loop-q.invariant c.args.frame.fits c.offer.ensures

pub returns-clause-puts : goal.returns-clause-puts
returns-clause-puts c =
    puts_filled c.args.self.now c.args.frame.bytes.now (member c.args.to) _ _ (omega arith) c.loop-q.invariant _ c.args.frame.fits (search rules)
