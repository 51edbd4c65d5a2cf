-- What a post means, the laws that make it one, and what put and take do. Assumes nothing.
use Rattle.std.specs.Prelude.{◌≡◌, ℕ, ◌<◌, ◌≤◌, Bool, true, false, ◌&&◌, ◌⊎◌, List, [], ◌∷◌, ◌++◌, map, length, take, drop, Some, None, count_by, filter, Option, ◌==◌, nat_le, nat_lt, slice_index_or}
use Rattle.std.specs.List.{range_with_len, remove, All}

-- a frame on its way to an addressee
pub record Item : Type 0 where
  pub to : ℕ
  pub frame : List ℕ

-- the items in order, and of an offer of a frame to a set whom it would be kept for now
pub record PostMeaning (P : Type 0) : Type 0 where
  pub items : P → List Item
  pub keeps : P → List ℕ → (ℕ → Bool) → ℕ → Bool

-- only a frame of 1 to 88 bytes is carried
abbrev pub sendable : List ℕ → Bool
sendable frame = nat_lt 0 (length frame) && nat_le (length frame) 88

-- an item for q
abbrev pub is_for : ℕ → Item → Bool
is_for q item = item.to == q

-- how many items wait for q
abbrev pub waiting : ℕ → List Item → ℕ
waiting q items = count_by (is_for q) items

abbrev pub addressed : List ℕ → ℕ → Item
addressed frame q = record { to = q; frame = frame }

abbrev pub no_item : Item
no_item = record { to = 0; frame = [] }

pub record PostLaws {P : Type 0} (m : PostMeaning P) : Type 0 where
  -- a frame is kept only for those it is offered to, and only where it can be carried
  pub offered : (p : P) (frame : List ℕ) (to : ℕ → Bool) (q : ℕ) → m.keeps p frame to q ≡ true → to q ≡ true
  pub carried : (p : P) (frame : List ℕ) (to : ℕ → Bool) (q : ℕ) → m.keeps p frame to q ≡ true → sendable frame ≡ true
  pub frames : (p : P) → All (λ item. sendable item.frame ≡ true) (m.items p)

-- the first list is the second with items gone
pub data Thinned : List Item → List Item → Type 0 where
  end : Thinned [] []
  stays : {item : Item} {left all : List Item} → Thinned left all → Thinned (item ∷ left) (item ∷ all)
  goes : {item : Item} {left all : List Item} → Thinned left all → Thinned left (item ∷ all)

module _ {P : Type 0} (m : PostMeaning P) where
  -- for whom the post keeps the frame, ascending
  abbrev pub kept : P → List ℕ → (ℕ → Bool) → List ℕ
  kept p frame to = filter (m.keeps p frame to) (range_with_len 0 8)

  -- put: the old list, perhaps with items gone, and then one item for each that is kept
  pub record Puts (before : P) (frame : List ℕ) (to : ℕ → Bool) (answer : ℕ) (after : P) : Type 0 where
    pub left : List Item
    pub thinned : Thinned left (m.items before)
    pub list : m.items after ≡ left ++ map (addressed frame) (kept before frame to)
    pub count : answer ≡ length (kept before frame to)
    pub refused : sendable frame ≡ false → after ≡ before

  -- take: the item at index is the k-th for q; its frame opens the buffer, and it alone may go
  pub record Taken (before : P) (q k : ℕ) (out : List ℕ) (answer : ℕ) (after : P) (filled : List ℕ) : Type 0 where
    pub index : ℕ
    pub within : index < length (m.items before)
    pub addressee : (slice_index_or (m.items before) index no_item).to ≡ q
    pub earlier : waiting q (take index (m.items before)) ≡ k
    pub long : answer ≡ length (slice_index_or (m.items before) index no_item).frame
    pub opens : filled ≡ (slice_index_or (m.items before) index no_item).frame ++ drop answer out
    pub list : (m.items after ≡ m.items before) ⊎ (m.items after ≡ remove (m.items before) index)

  abbrev pub Takes : P → ℕ → ℕ → List ℕ → Option ℕ → P → List ℕ → Type 0
  Takes before q k out None after filled = (waiting q (m.items before) ≤ k) × (after ≡ before) × (filled ≡ out)
  Takes before q k out (Some answer) after filled = Taken before q k out answer after filled
