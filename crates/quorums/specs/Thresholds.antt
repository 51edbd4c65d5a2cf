-- Weights and thresholds that make a rule. Assumes nothing.
use Rattle.std.specs.Prelude.{ℕ, ◌+◌, Bool, ◌&&◌, leb, List, map, nat_le, nat_lt, slice_index}
use Rattle.std.specs.List.{range_with_len, list_all}
use Rattle.quorums.specs.Sizes.{is_size}
use Rattle.quorums.specs.Weights.{total}

-- participant i's weight
abbrev pub weight : List ℕ → ℕ → ℕ
weight ws i = slice_index ws i

-- weights for seven, 0 past those given
abbrev pub seven : List ℕ → List ℕ
seven ws = map (weight ws) (range_with_len 0 7)

-- each threshold is from 1 to the total, and the two are more than the total
abbrev pub crossed : ℕ → ℕ → ℕ → Bool
crossed all promise choose = nat_le 1 promise && nat_le promise all && nat_le 1 choose && nat_le choose all && nat_lt all (promise + choose)

-- 2 to 7 participants, no weight above 15, and thresholds that fit the total
abbrev pub stands : ℕ → List ℕ → ℕ → ℕ → Bool
stands n ws promise choose = is_size n && list_all (λ w. leb w 15) ws && crossed (total (weight ws) n) promise choose
