-- Where a participant's row of a cell lies. Assumes nothing.
use Rattle.std.specs.Prelude.{◌≡◌, ℕ, ◌+◌, ◌*◌, ◌<◌}
use Rattle.register.specs.declared.size.Size.{Size}

-- participant p's row of cell c, among the rows of all participants
pub record Here (size : Size) (rows p c place : ℕ) : Type 0 where
  pub participant : p < size.n
  pub cell : c < size.cells
  pub all_rows : rows ≡ size.n * size.cells
  pub row : place ≡ p * size.cells + c
  pub within : place < rows
