-- The twelve bytes of an entry: promise + 1 in 24 bits, vote + 1 in 24 bits, code in 48 bits, highest first. Assumes nothing.
use Rattle.std.specs.Prelude.{ℕ, zero, suc, ◌+◌, ◌/◌, ◌%◌, ◌^◌, cond, List, [], ◌∷◌, ◌++◌, length, take, drop, ℤ, pos, negsuc, Some, None, Option, nat_le}
use Rattle.std.specs.Int.Digits.{number_from_digits}
use Rattle.model.specs.declared.entries.Entry.{Entry}

-- a number in so many bytes, highest first
abbrev pub big : ℕ → ℕ → List ℕ
big zero n = []
big (suc k) n = (n / 256 ^ k % 256) ∷ big k n

-- a ballot in a field: one more, so that 0 is none
abbrev pub raised : ℤ → ℕ
raised (pos b) = suc b
raised (negsuc k) = 0

abbrev pub lowered : ℕ → ℤ
lowered zero = negsuc 0
lowered (suc b) = pos b

unfoldable pub written : Entry → List ℕ
written e = big 3 (raised e.promise) ++ (big 3 (raised e.vote) ++ big 6 e.code)

-- what the first twelve bytes spell
unfoldable pub spelled : List ℕ → Entry
spelled bytes = record {
  promise = lowered (number_from_digits 256 (take 3 bytes));
  vote = lowered (number_from_digits 256 (take 3 (drop 3 bytes)));
  code = number_from_digits 256 (take 6 (drop 6 bytes));
}

-- what the twelve bytes from a place on spell, where there are as many
abbrev pub spelled_at : List ℕ → ℕ → Option Entry
spelled_at bytes place = cond (nat_le (place + 12) (length bytes)) (Some (spelled (take 12 (drop place bytes)))) None
