-- A line and a shelf midway through a put. Only private functions speak of it. Assumes nothing.
use Rattle.std.specs.Prelude.{◌≡◌, ℕ, ◌+◌, min, Bool, cond, ◌&&◌, List, [], ◌∷◌, ◌++◌, map, length, drop, count_by, filter, nat_lt}
use Rattle.std.specs.List.{range_with_len}
use Rattle.posts.specs.Meaning.{Item, addressed}
use Rattle.posts.specs.Lines.{served}
use Rattle.posts.specs.Shelves.{welcome, latest}

-- a line's items once q has been offered a frame: added where q is addressed and there is room
abbrev pub offered : List ℕ → (ℕ → Bool) → ℕ → List Item → List Item
offered frame to q items = cond (to q && nat_lt (length items) 64) (items ++ addressed frame q ∷ []) items

-- a line that held xs, once a put has gone through the addressees below q
pub record Filling (xs : List Item) (frame : List ℕ) (to : ℕ → Bool) (q : ℕ) (ys : List Item) : Type 0 where
  pub list : ys ≡ xs ++ map (addressed frame) (filter (served xs frame to) (range_with_len 0 q))
  pub size : length ys ≡ min 64 (length xs + count_by to (range_with_len 0 q))

-- the items with room for one more
abbrev pub with_room : List Item → List Item
with_room items = cond (nat_lt (length items) 64) items (drop 1 items)

-- a shelf's items once q has been offered a frame: added where q is addressed
abbrev pub stocked : List ℕ → (ℕ → Bool) → ℕ → List Item → List Item
stocked frame to q items = cond (to q) (with_room items ++ addressed frame q ∷ []) items

-- a shelf that held xs, once a put has gone through the addressees below q
pub record Stocking (xs : List Item) (frame : List ℕ) (to : ℕ → Bool) (q : ℕ) (ys : List Item) : Type 0 where
  pub list : ys ≡ latest (xs ++ map (addressed frame) (filter (welcome frame to) (range_with_len 0 q)))
