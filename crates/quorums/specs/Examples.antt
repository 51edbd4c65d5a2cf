-- Worked examples of quorum rules. Assumes nothing.
use Rattle.std.specs.Prelude.{◌≡◌, ℕ, Bool, true, false, [], ◌∷◌, is_ok, Ok, Err}
use Rattle.model.specs.declared.faults.Fault.TheVariants.{NoRule}
use Rattle.model.specs.Sets.{member}
use Rattle.quorums.specs.Majorities.{majority, made_majority}
use Rattle.quorums.specs.WeightedRules.{made_weighted}
use Rattle.quorums.specs.declared.majority.Majority.{Majority}

-- the majority rule answers so for the set with this mask, both to promise and to choose
abbrev pub Says : Majority → ℕ → Bool → Type 0
Says q mask answer = (majority.promises q (member mask) ≡ answer) × (majority.chooses q (member mask) ≡ answer)

-- of four participants 0 and 1 (mask 3) do not suffice, and 0, 1 and 2 (mask 7) do
abbrev pub MajorityExamples : Type 0
MajorityExamples = (q : Majority) × (made_majority 4 ≡ Ok q) × Says q 3 false × Says q 7 true

-- with weights 3, 1 and 1 thresholds 3 and 3 make a rule, 2 and 3 do not
abbrev pub WeightedExamples : Type 0
WeightedExamples = (is_ok (made_weighted (3 ∷ 1 ∷ 1 ∷ []) 3 3) ≡ true) × (made_weighted (3 ∷ 1 ∷ 1 ∷ []) 2 3 ≡ Err NoRule)
