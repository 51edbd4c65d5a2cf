-- The numbers of participants that a rule can be for. Assumes nothing.
use Rattle.std.specs.Prelude.{ℕ, Bool, ◌&&◌, nat_le}

-- 2 to 7
abbrev pub is_size : ℕ → Bool
is_size n = nat_le 2 n && nat_le n 7
