-- The line that is being collected from the blocks of an input. Assumes nothing.
use Rattle.std.specs.Prelude.{◌≡◌, ℕ, ◌+◌, ◌≤◌, Bool, true, cond, List, [], ◌++◌, length, drop, Some, None, Option, nat_le, nat_lt}
use Rattle.std.specs.Option.{option_map}
use Rattle.script.specs.declared.lines.Lines.{Lines}
use Rattle.script.specs.Pieces.{front, others, cut, newline}

-- what is kept of a line: its bytes, or of more than 80 only that it is too long
abbrev pub kept : List ℕ → Option (List ℕ)
kept line = cond (nat_le (length line) 80) (Some line) None

-- a line of which this was kept, with more bytes behind it
abbrev pub added : Option (List ℕ) → List ℕ → Option (List ℕ)
added None more = None
added (Some line) more = kept (line ++ more)

-- what is kept of the bytes since the last clear
abbrev pub collected : Lines → Option (List ℕ)
collected lines = option_map (λ line. line.items) lines.line

-- whether there are any
abbrev pub begun : Option (List ℕ) → Bool
begun None = true
begun (Some line) = nat_lt 0 (length line)

-- the bytes of a block from a position on that belong to the line: those before the next newline
abbrev pub part : List ℕ → ℕ → List ℕ
part block from = front newline (drop from block)

-- where the block goes on behind that newline with the other pieces, if there is one
abbrev pub GoesOn : List ℕ → ℕ → Option ℕ → Type 0
GoesOn block from None = (part block from ≡ drop from block) × (others newline (drop from block) ≡ [])
GoesOn block from (Some next) = (next ≡ from + length (part block from) + 1) × (next ≤ length block) × (others newline (drop from block) ≡ cut newline (drop next block))
