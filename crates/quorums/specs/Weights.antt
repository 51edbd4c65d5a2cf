-- The weight of a set of participants, and rules by weight. Assumes nothing.
use Rattle.std.specs.Prelude.{ℕ, Bool, cond, sum_by, nat_le}
use Rattle.std.specs.List.{range_with_len}
use Rattle.quorums.specs.Meaning.{RuleMeaning}

-- the weights of those of the first n participants that are in the set, added up
abbrev pub weight_of : (ℕ → ℕ) → ℕ → (ℕ → Bool) → ℕ
weight_of w n s = sum_by (λ i. cond (s i) (w i) 0) (range_with_len 0 n)

-- the weights of the first n participants, added up
abbrev pub total : (ℕ → ℕ) → ℕ → ℕ
total w n = sum_by w (range_with_len 0 n)

-- a set suffices that weighs at least the threshold
abbrev pub weighing : {Q : Type 0} → (Q → ℕ) → (Q → ℕ → ℕ) → (Q → ℕ) → (Q → ℕ) → RuleMeaning Q
weighing size w promise choose =
    record {
      size = size;
      promises = λ q s. nat_le (promise q) (weight_of (w q) (size q) s);
      chooses = λ q s. nat_le (choose q) (weight_of (w q) (size q) s);
    }
