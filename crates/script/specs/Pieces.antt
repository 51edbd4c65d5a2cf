-- Bytes cut into pieces at a mark: a line at its spaces, a block of input at its newlines. Assumes nothing.
use Rattle.std.specs.Prelude.{◌≡◌, ℕ, ◌<◌, cond, List, [], ◌∷◌, ◌++◌, length, Some, None, Option, ◌==◌}
use Rattle.std.specs.Borrow.{Bor}
use Rattle.std.specs.Str.Iter.{LacksByte}
use Rattle.std.specs.List.{join_with_byte, All}

-- the bytes before the first mark
abbrev pub front : ℕ → List ℕ → List ℕ
front mark [] = []
front mark (b ∷ bs) = cond (b == mark) [] (b ∷ front mark bs)

-- the pieces behind it, one for each mark: the bytes from there to the next mark, or to the end
abbrev pub others : ℕ → List ℕ → List (List ℕ)
others mark [] = []
others mark (b ∷ bs) = cond (b == mark) (front mark bs ∷ others mark bs) (others mark bs)

-- the pieces between the marks, any of which may be empty
abbrev pub cut : ℕ → List ℕ → List (List ℕ)
cut mark bs = front mark bs ∷ others mark bs

-- piece is the first of bs, and rest, if there is a mark, all that stands behind that
abbrev pub Splits : ℕ → List ℕ → List ℕ → Option (Bor (List ℕ)) → Type 0
Splits mark bs piece None = (piece ≡ bs) × (cut mark bs ≡ piece ∷ [])
Splits mark bs piece (Some rest) = (bs ≡ piece ++ mark ∷ rest.now) × (cut mark bs ≡ piece ∷ cut mark rest.now)

abbrev pub space : ℕ
space = 32

abbrev pub newline : ℕ
newline = 10

-- the pieces of a line, divided by single spaces
abbrev pub pieces : List ℕ → List (List ℕ)
pieces line = cut space line

-- these are the pieces of bs: put together again they are bs, none holds a mark, and there are no others
pub record CutAt (mark : ℕ) (bs : List ℕ) (ps : List (List ℕ)) : Type 0 where
  pub whole : join_with_byte mark ps ≡ bs
  pub clean : All (LacksByte mark) ps
  pub only : (qs : List (List ℕ)) → 0 < length qs → All (LacksByte mark) qs → join_with_byte mark qs ≡ bs → qs ≡ ps
