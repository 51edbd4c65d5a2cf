-- The majority rule. Assumes nothing.
use Rattle.std.specs.Prelude.{ℕ, ◌*◌, Bool, Result, nat_lt}
use Rattle.std.specs.Option.{ok_or}
use Rattle.model.specs.declared.faults.Fault.TheVariants.{NoRule}
use Rattle.model.specs.Makers.{made_if}
use Rattle.model.specs.declared.faults.Fault.{Fault}
use Rattle.quorums.specs.Meaning.{RuleMeaning}
use Rattle.quorums.specs.Sizes.{is_size}
use Rattle.quorums.specs.Weights.{weight_of}
use Rattle.quorums.specs.declared.majority.Majority.{Majority}

-- the rule for n participants, where n is 2 to 7
abbrev pub made_majority : ℕ → Result Majority Fault
made_majority n = ok_or (made_if (is_size n) (λ t. record { n = n; ok = t })) NoRule

-- twice as many as are in the set are more than all
abbrev pub more_than_half : Majority → (ℕ → Bool) → Bool
more_than_half q s = nat_lt q.n (2 * weight_of (λ i. 1) q.n s)

abbrev pub majority : RuleMeaning Majority
majority = record { size = λ q. q.n; promises = more_than_half; chooses = more_than_half }
