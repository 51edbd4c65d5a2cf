-- What a block of input leaves of a line. Assumes nothing.
use Rattle.std.specs.Prelude.{ℕ, List, [], ◌∷◌, Option}
use Rattle.script.specs.Collected.{kept, added}
use Rattle.script.specs.Pieces.{front, others, newline}

-- what is kept of the last of some lines, the first of which was kept so
abbrev pub last : Option (List ℕ) → List (List ℕ) → Option (List ℕ)
last line [] = line
last line (p ∷ ps) = last (kept p) ps

-- what is kept of the line that a block leaves unended, with what was kept of the line that it goes on with
abbrev pub left : Option (List ℕ) → List ℕ → Option (List ℕ)
left line block = last (added line (front newline block)) (others newline block)
