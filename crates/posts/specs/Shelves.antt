-- What a shelf means: it has 64 places, and gives up the oldest items for new ones. Assumes nothing.
use Rattle.std.specs.Prelude.{◌≡◌, ℕ, ◌-◌, Bool, ◌&&◌, List, ◌++◌, map, length, drop}
use Rattle.posts.specs.Meaning.{Item, PostMeaning, sendable, addressed, kept}
use Rattle.posts.specs.Trays.{tray_items}
use Rattle.posts.specs.declared.shelf.Shelf.{Shelf}

abbrev pub shelf_items : Shelf → List Item
shelf_items shelf = tray_items shelf.tray

-- every addressee is served
abbrev pub welcome : List ℕ → (ℕ → Bool) → ℕ → Bool
welcome frame to q = sendable frame && to q

abbrev pub shelf_means : PostMeaning Shelf
shelf_means = record { items = shelf_items; keeps = λ _. welcome }

-- the last 64
abbrev pub latest : List Item → List Item
latest items = drop (length items - 64) items

-- a put loses only the oldest, and only as many as it must
pub record Replaces (before : Shelf) (frame : List ℕ) (to : ℕ → Bool) (after : Shelf) : Type 0 where
  pub list : shelf_items after ≡ latest (shelf_items before ++ map (addressed frame) (kept shelf_means before frame to))
