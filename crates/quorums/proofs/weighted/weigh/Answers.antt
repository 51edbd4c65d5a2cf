use Rattle.std.proofs.Common.{rules, tests, arith}
use Rattle.std.proofs.lemmas.List.FromFn.{length-range_with_len}
use Rattle.std.proofs.lemmas.Iterator.{YieldsList-from_range}
use Rattle.std.proofs.lemmas.Iterator.Adapters.{fits_from_length, at_most_from_yields_List}
use Rattle.quorums.proofs.weighted.weigh.Goals as goal

pub sum-requires-clause-fits : goal.sum-requires-clause-fits
sum-requires-clause-fits c =
    fits_from_length _ _ 7 _ (at_most_from_yields_List (YieldsList-from_range 0 c.args.n c.args.n (cc) (omega arith)) (omega (arith, length-range_with_len 0 c.args.n))) c.map.ensures.closure (omega arith)
    (λ x r q k. search (rules, tests))
