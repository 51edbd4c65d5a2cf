-- What a row shows never shrinks, and where an answer comes from. Assumes nothing.
use Rattle.std.specs.Prelude.{◌≡◌, ℕ, ◌<◌, ◌⊎◌, List, pos, ◌≤ℤ◌, Some, Ok, Err, Result}
use Rattle.kinds.specs.Meaning.{KindMeaning}
use Rattle.model.specs.declared.entries.Entry.{Entry}
use Rattle.model.specs.declared.rows.Row.{Row}
use Rattle.steps.specs.Rows.{entry_at, vote_at, value_at}
use Rattle.machine.specs.Board.{row_at}
use Rattle.machine.specs.Law.{AtMost}

-- every entry of every row, the own ones too, has promised and voted at least what it had
abbrev pub ShowsNoLess : List Row → List Row → Type 0
ShowsNoLess before after = (place i : ℕ) → AtMost (entry_at (row_at before place) i) (entry_at (row_at after place) i)

-- an accept answers the value of a vote that its row shows, or the one handed in
abbrev pub FromRow : {V F : Type 0} → KindMeaning V → List Entry → ℕ → V → Result (V × ℕ) F → Type 0
FromRow m row n wish (Err f) = Unit {0}
FromRow m row n wish (Ok (v, kept)) = ((i : ℕ) × (i < n) × (pos 0 ≤ℤ vote_at m row i) × (value_at m row i ≡ Some v)) ⊎ (v ≡ wish)
