-- Numbers in a script: 1 to 8 decimal digits, which may begin with zeros. Assumes nothing.
use Rattle.std.specs.Prelude.{ℕ, cond, ◌&&◌, List, length, Some, None, Option, nat_le, nat_lt}
use Rattle.std.specs.Str.Parse.{digits_value}
use Rattle.std.specs.Str.{all_ascii_digits}

-- the number that a word spells, if it spells one
abbrev pub numeral : List ℕ → Option ℕ
numeral word = cond (nat_lt 0 (length word) && nat_le (length word) 8 && all_ascii_digits word) (Some (digits_value 10 word)) None
