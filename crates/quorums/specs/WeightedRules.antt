-- The weighted rule. Assumes nothing.
use Rattle.std.specs.Prelude.{ℕ, List, length, Result}
use Rattle.std.specs.Option.{ok_or}
use Rattle.model.specs.declared.faults.Fault.TheVariants.{NoRule}
use Rattle.model.specs.Makers.{made_if}
use Rattle.model.specs.declared.faults.Fault.{Fault}
use Rattle.quorums.specs.Meaning.{RuleMeaning}
use Rattle.quorums.specs.Thresholds.{weight, seven, stands}
use Rattle.quorums.specs.Weights.{weighing}
use Rattle.quorums.specs.declared.weighted.Weighted.{Weighted}

-- the rule for as many participants as there are weights
abbrev pub made_weighted : List ℕ → ℕ → ℕ → Result Weighted Fault
made_weighted ws promise choose =
    ok_or
    (made_if (stands (length ws) (seven ws) promise choose) (λ t. record { n = length ws; weights = seven ws; promise = promise; choose = choose; ok = t }))
    NoRule

-- a set suffices that weighs at least the threshold
abbrev pub weighted : RuleMeaning Weighted
weighted = weighing (λ q. q.n) (λ q. weight q.weights) (λ q. q.promise) (λ q. q.choose)
