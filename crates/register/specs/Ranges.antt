-- How many participants and cells a register may have. Assumes nothing.
use Rattle.std.specs.Prelude.{ℕ, Bool, ◌&&◌, nat_le}
use Rattle.quorums.specs.Sizes.{is_size}

-- 2 to 7 participants and 1 to 64 cells
abbrev pub in_range : ℕ → ℕ → Bool
in_range n cells = is_size n && nat_le 1 cells && nat_le cells 64
