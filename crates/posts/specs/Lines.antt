-- What a line means: it has 64 places, and turns new items away where they are full. Assumes nothing.
use Rattle.std.specs.Prelude.{◌≡◌, ℕ, ◌+◌, Bool, ◌&&◌, List, ◌++◌, map, length, Some, None, count_by, Option, nat_lt}
use Rattle.std.specs.List.{remove, range_with_len}
use Rattle.posts.specs.Meaning.{Item, PostMeaning, sendable, addressed, kept}
use Rattle.posts.specs.Places.{Place}
use Rattle.posts.specs.Trays.{tray_items}
use Rattle.posts.specs.declared.line.Line.{Line}

abbrev pub line_items : Line → List Item
line_items line = tray_items line.tray

-- an addressee is served while fewer than 64 items stand before its own, those for the addressees below it among them
abbrev pub served : List Item → List ℕ → (ℕ → Bool) → ℕ → Bool
served items frame to q = sendable frame && (to q && nat_lt (length items + count_by to (range_with_len 0 q)) 64)

abbrev pub line_means : PostMeaning Line
line_means = record { items = line_items; keeps = λ line. served (line_items line) }

-- a put loses no old item
pub record Queues (before : Line) (frame : List ℕ) (to : ℕ → Bool) (after : Line) : Type 0 where
  pub list : line_items after ≡ line_items before ++ map (addressed frame) (kept line_means before frame to)

-- a take lets exactly the item taken go
pub record Gone (before : List Item) (q k : ℕ) (after : List Item) : Type 0 where
  pub index : ℕ
  pub place : Place before q k index
  pub list : after ≡ remove before index

abbrev pub Lets : ℕ → ℕ → List Item → Option ℕ → List Item → Type 0
Lets q k before None after = after ≡ before
Lets q k before (Some answer) after = Gone before q k after
