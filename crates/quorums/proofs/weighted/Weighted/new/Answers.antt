use Rattle.quorums.specs.Loads.{weighted_made}
use Rattle.quorums.proofs.weighted.Weighted.new.Goals as goal

pub returns-then-stands-clause-value : goal.returns-then-stands-clause-value
returns-then-stands-clause-value c = weighted_made c.args.weights.now c.seven-weights.result c.args.promise c.args.choose c.seven-weights.ensures _
