-- The words of a line, one after the other. Assumes nothing.
use Rattle.std.specs.Prelude.{◌≡◌, ℕ, Bool, true, false, List, [], ◌∷◌, Some, None, Option}
use Rattle.std.specs.Borrow.{Bor}
use Rattle.script.specs.declared.words.Word.{Word}
use Rattle.script.specs.declared.words.Word.TheVariants.{Text, Number}
use Rattle.script.specs.declared.words.Words.{Words}
use Rattle.script.specs.Numerals.{numeral}
use Rattle.script.specs.Pieces.{pieces}

-- the bytes that a word borrows
abbrev pub text : Word → List ℕ
text (Text w) = w.now
text (Number n w) = w.now

-- the number that a word is told to be
abbrev pub number : Word → Option ℕ
number (Text w) = None
number (Number n w) = Some n

abbrev pub pieces_of : Option (Bor (List ℕ)) → List (List ℕ)
pieces_of None = []
pieces_of (Some rest) = pieces rest.now

-- the pieces still to come
abbrev pub to_come : Words → List (List ℕ)
to_come words = pieces_of words.rest

-- the next word is the first piece, a number exactly where it spells one, and the others are still to come
abbrev pub Next : List (List ℕ) → Option Word → List (List ℕ) → Type 0
Next before None after = (before ≡ []) × (after ≡ [])
Next before (Some w) after = (before ≡ text w ∷ after) × (number w ≡ numeral (text w))

-- the number of the first piece
abbrev pub first_number : List (List ℕ) → Option ℕ
first_number [] = None
first_number (p ∷ ps) = numeral p

abbrev pub is_empty : List (List ℕ) → Bool
is_empty [] = true
is_empty (p ∷ ps) = false
