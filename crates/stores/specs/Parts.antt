-- Bytes of which a part is written over. Assumes nothing.
use Rattle.std.specs.Prelude.{ℕ, ◌+◌, List, ◌++◌, length, take, drop}

-- the part stands from this byte on, and every other byte as before
abbrev pub overwritten : List ℕ → ℕ → List ℕ → List ℕ
overwritten bytes from part = take from bytes ++ (part ++ drop (from + length part) bytes)
