-- The worked examples of quorum rules. Assumes nothing.
use Rattle.std.proofs.Common.{refl}
use Rattle.quorums.specs.Examples.{MajorityExamples, WeightedExamples}

pub majority_examples : MajorityExamples
majority_examples = (_, refl, (refl, refl), (refl, refl))

pub weighted_examples : WeightedExamples
weighted_examples = (refl, refl)
