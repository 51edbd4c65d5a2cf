-- Sets of participants, as masks and as tests. Assumes nothing.
use Rattle.std.specs.Prelude.{ℕ, ◌-◌, ◌/◌, ◌%◌, ◌^◌, min, Bool, cond, ◌&&◌, ◌==◌, bit_and, bit_or, nat_lt}

-- participant p is worth 2^p
abbrev pub member : ℕ → ℕ → Bool
member set p = (set / 2 ^ p % 2) == 1

abbrev pub all : ℕ → ℕ
all n = 2 ^ min n 8 - 1

abbrev pub single : ℕ → ℕ
single p = cond (nat_lt p 8) (2 ^ p) 0

abbrev pub all_but : ℕ → ℕ → ℕ
all_but n p = cond (nat_lt p n && nat_lt p 8) (all n - 2 ^ p) (all n)

-- the set with participant p in it
abbrev pub with : ℕ → ℕ → ℕ
with set p = bit_or set (single p)

-- the set with participant p out of it
abbrev pub without : ℕ → ℕ → ℕ
without set p = bit_and set (all_but 8 p)
