-- Where an item stands. Assumes nothing.
use Rattle.std.specs.Prelude.{◌≡◌, ℕ, ◌<◌, ◌≤◌, List, length, take, Some, None, Option, slice_index_or}
use Rattle.posts.specs.Meaning.{Item, no_item, waiting}

-- the k-th item for q stands at index
pub record Place (items : List Item) (q k index : ℕ) : Type 0 where
  pub within : index < length items
  pub addressee : (slice_index_or items index no_item).to ≡ q
  pub earlier : waiting q (take index items) ≡ k

abbrev pub Finds : List Item → ℕ → ℕ → Option ℕ → Type 0
Finds items q k None = waiting q items ≤ k
Finds items q k (Some index) = Place items q k index
