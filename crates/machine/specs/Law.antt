-- What holds over every run of a fresh register. Assumes nothing.
use Rattle.std.specs.Prelude.{◌≡◌, ℕ, ◌-◌, ◌<◌, true, false, cond, ◌⊎◌, List, [], ◌∷◌, ◌++◌, map, length, ℤ, ◌≤ℤ◌, ◌<ℤ◌, Some, Ok, Err, filter, Result, ◌≢◌, slice_index_or}
use Rattle.std.specs.List.{range_with_len, All}
use Rattle.frames.specs.Layout.{heading_in, entry_in}
use Rattle.frames.specs.declared.reader.Frame.{Frame}
use Rattle.frames.specs.declared.sort.Sort.{Sort}
use Rattle.frames.specs.declared.sort.Sort.TheVariants.{Prepare, Accept, Ack}
use Rattle.model.specs.Sets.{member, all_but, single}
use Rattle.model.specs.declared.entries.Entry.{Entry}
use Rattle.model.specs.Faults.{number_of}
use Rattle.model.specs.declared.faults.Fault.{Fault}
use Rattle.posts.specs.Meaning.{Item, addressed, no_item}
use Rattle.steps.specs.Entries.{behind}
use Rattle.steps.specs.Rows.{entry_at}
use Rattle.stores.specs.Meaning.{Fresh}
use Rattle.machine.specs.Board.{Makes, Table, Board, Turn, row_of, own, place_of}
use Rattle.machine.specs.Calls.{sent, entry_of, Prepares, Accepts, Delivered, ReadsOut}
use Rattle.machine.specs.Refusals.{owns}
use Rattle.machine.specs.Runs.{Event, prepare, accept, abandon, deliver, restart, Run}

-- the event handed v to an accept of cell c
abbrev pub Hands : {V : Type 0} → ℕ → V → Event V → Type 0
Hands c v (prepare p d b r) = ⊥
Hands c v (accept round w r) = (round.c ≡ c) × (w ≡ v)
Hands c v (abandon round) = ⊥
Hands c v (deliver q k out r filled) = ⊥
Hands c v (restart p r) = ⊥

-- one of the events did
abbrev pub Handed : {V : Type 0} → List (Event V) → ℕ → V → Type 0
Handed [] c v = ⊥
Handed (e ∷ es) c v = Hands c v e ⊎ Handed es c v

-- neither promise nor vote of the first is above those of the second
pub record AtMost (e kept : Entry) : Type 0 where
  pub promise : e.promise ≤ℤ kept.promise
  pub vote : e.vote ≤ℤ kept.vote

-- the due items without one of them
pub data Without (item : Item) : List Item → List Item → Type 0 where
  here : {due : List Item} → Without item (item ∷ due) due
  there : {other : Item} {due left : List Item} → Without item due left → Without item (other ∷ due) (other ∷ left)

-- no save failed
abbrev pub Saved : {X F : Type 0} → (F → Fault) → Result X F → Type 0
Saved fault (Ok x) = Unit {0}
Saved fault (Err f) = number_of (fault f) ≡ 12 → ⊥

module _ {V Q P S : Type 0} (m : Makes V Q P S) where
  -- participant p reads ballot b and value v in cell c
  abbrev pub Reads : Board Q P S → ℕ → ℕ → ℤ → V → Type 0
  Reads x p c b v = ReadsOut m x.table p c (Ok (Some (b, v)))

  -- what the store keeps of cell c for its owner
  abbrev pub stored : Board Q P S → ℕ → ℕ → Entry
  stored x i c = m.store.at x.store (place_of x.table i c)

  -- no entry of a row or of a waiting frame is ahead of what the store keeps for its owner
  pub record Behind (x : Board Q P S) : Type 0 where
    pub rows : (p c i : ℕ) → p < x.table.n → c < x.table.cells → i < x.table.n → AtMost (entry_at (row_of x.table p c) i) (stored x i c)
    pub frames : All (λ item. (i : ℕ) → i < x.table.n → AtMost (entry_in item.frame i) (stored x i (heading_in item.frame).cell)) (m.post.items x.post)

  -- one item for each addressee of participant p's row
  abbrev pub to_others : Board Q P S → Sort → ℕ → ℕ → List Item
  to_others x sort p c =
      map (addressed (sent m.kind x.table.n sort p c (all_but x.table.n p) (row_of x.table p c))) (filter (member (all_but x.table.n p)) (range_with_len 0 8))

  module _ {x z : Board Q P S} {q k : ℕ} {out filled : List ℕ} {r : Result ℕ Fault} where
    -- the item that a delivery took
    abbrev pub taken : Delivered m x q k out r z filled → Item
    taken d = slice_index_or (m.post.items x.post) d.takes.index no_item

  -- the ack that a delivery owed, if any, as an item
  abbrev pub owed : Board Q P S → ℕ → Frame → List Item
  owed z q frame =
      cond (behind (entry_of frame q) (own z.table q frame.header.cell))
      (addressed (sent m.kind z.table.n Ack q frame.header.cell (single frame.header.sender) (row_of z.table q frame.header.cell)) frame.header.sender ∷ [])
      []

  -- deliveries, and nothing else, until each item that is due and each ack put on the way was taken once; no save failed, and each ack was kept
  pub data Quiet : Board Q P S → List Item → Board Q P S → Type 0 where
    done : {x : Board Q P S} → Quiet x [] x
    took : {x y z : Board Q P S} {q k kept : ℕ} {out filled : List ℕ} {due left : List Item}
        (d : Delivered m x q k out (Ok kept) z filled) → Without (taken d) due left → kept ≡ length (owed z q d.receives.1.0)
        → Quiet z (left ++ owed z q d.receives.1.0) y → Quiet x due y
    refused : {x y z : Board Q P S} {q k : ℕ} {out filled : List ℕ} {f : Fault} {due left : List Item}
        (d : Delivered m x q k out (Err f) z filled) → Without (taken d) due left → (number_of f ≢ 12)
        → Quiet z left y → Quiet x due y

  -- nobody is down, and b is participant p's and above every promise that a row of cell c shows
  pub record Clear (x : Board Q P S) (p c : ℕ) (b : ℤ) : Type 0 where
    pub up : (i : ℕ) → i < x.table.n → member x.table.down i ≡ false
    pub participant : p < x.table.n
    pub cell : c < x.table.cells
    pub mine : owns x.table.n p b ≡ true
    pub above : (q i : ℕ) → q < x.table.n → i < x.table.n → (entry_at (row_of x.table q c) i).promise <ℤ b

  -- an accept after which all is delivered: it is taken, and its participant then reads what it answered
  abbrev pub Decides : Board Q P S → Turn → Type 0
  Decides x round =
      (wish : V) (r : Result (V × ℕ) (Fault × Turn)) (y : Board Q P S) → Accepts m (λ t. t) x round wish r y → Saved (λ f. f.0) r
      → (v : V) × ((kept : ℕ) × (r ≡ Ok (v, kept)) × (kept ≡ x.table.n - 1 → (z : Board Q P S) → Quiet y (to_others y Accept round.p round.c) z → Reads z round.p round.c round.b v))

  -- a prepare after which all is delivered: it is taken, and an accept with its round decides
  abbrev pub QuietRound : Board Q P S → Turn → Type 0
  QuietRound x round =
      (r : Result (Turn × ℕ) Fault) (y : Board Q P S) → Prepares m (λ t. t) x round.p round.c round.b r y → Saved (λ f. f) r
      → (kept : ℕ) × (r ≡ Ok (round, kept)) × (kept ≡ x.table.n - 1 → (z : Board Q P S) → Quiet y (to_others y Prepare round.p round.c) z → Decides z round)

  -- the promises, over every run that starts at x
  pub record Law (x : Board Q P S) : Type 0 where
    -- agreement: two read-outs of a cell that give a value, at two moments, give the same
    pub agreed : {es fs : List (Event V)} {y z : Board Q P S} (p q c : ℕ) (a b : ℤ) (v w : V)
        → Run m x es y → Run m y fs z → Reads y p c a v → Reads z q c b w → v ≡ w
    -- and what is read was handed before to an accept of that cell
    pub handed : {es : List (Event V)} {y : Board Q P S} (p c : ℕ) (b : ℤ) (v : V) → Run m x es y → Reads y p c b v → Handed es c v
    -- nothing is ahead of the store
    pub behind : {es : List (Event V)} {y : Board Q P S} → Run m x es y → Behind y
    -- a quiet round decides
    pub decides : {es : List (Event V)} {y : Board Q P S} (round : Turn) → Run m x es y → Clear y round.p round.c round.b → QuietRound y round

  -- the law of a register that was set up over a fresh store, with any empty post
  abbrev pub FreshLaw : Table Q → S → Type 0
  FreshLaw t store = Fresh m.store store → (post : P) → m.post.items post ≡ [] → Law (record { table = t; store = store; post = post })
