-- What each call does: its answer, and the table, the store and the post after it. Assumes nothing.
use Rattle.std.specs.Prelude.{◌≡◌, ℕ, Bool, true, false, ◌⊎◌, List, take, ℤ, pos, Some, None, Ok, Err, Option, Result, ◌≢◌, slice_index_or}
use Rattle.std.specs.Option.{option_map}
use Rattle.frames.specs.Faults.{passed_up}
use Rattle.frames.specs.Layout.{laid_out}
use Rattle.frames.specs.Reading.{Spells, first_fault}
use Rattle.frames.specs.declared.reader.Frame.{Frame}
use Rattle.frames.specs.declared.sort.Sort.{Sort}
use Rattle.frames.specs.declared.sort.Sort.TheVariants.{Prepare, Accept, Ack}
use Rattle.kinds.specs.Meaning.{KindMeaning}
use Rattle.model.specs.declared.faults.Fault.TheVariants.{SaveFailed, NoItem}
use Rattle.model.specs.Sets.{member, all_but, single}
use Rattle.model.specs.declared.entries.Entry.{Entry}
use Rattle.model.specs.declared.faults.Fault.{Fault}
use Rattle.posts.specs.Meaning.{Puts, Takes}
use Rattle.steps.specs.Entries.{promising, voting, seen, adopted, behind}
use Rattle.steps.specs.Rows.{entry_at, Carries, Shows}
use Rattle.stores.specs.Meaning.{Saves}
use Rattle.machine.specs.Board.{Makes, Table, Board, Turn, place_of, row_of, own, renewed, gone_down, with_rows}
use Rattle.machine.specs.Keeping.{SavesChange}
use Rattle.machine.specs.Refusals.{door, cell_door, prepare_refusal, accept_refusal}

-- the frame of a row: its first n entries under the sender's header
abbrev pub sent : {V : Type 0} → KindMeaning V → ℕ → Sort → ℕ → ℕ → ℕ → List Entry → List ℕ
sent kind n sort p c to row = laid_out (record { sort = sort; n = n; sender = p; kind = kind.number; to = to; cell = c }) (take n row)

-- participant i's entry in a frame
abbrev pub entry_of : Frame → ℕ → Entry
entry_of frame i = slice_index_or frame.row.entries i (record { promise = pos 0; vote = pos 0; code = 0 })

module _ {V Q P S : Type 0} (m : Makes V Q P S) where
  -- a refusal alters nothing
  abbrev pub Refused : Option Fault → Board Q P S → Fault → Board Q P S → Type 0
  Refused refusal x f y = (refusal ≡ Some f) × (y ≡ x)

  -- a failed save: 12 at the store's place, which holds the old entry or the new; participant p is down
  pub record Stopped (x : Board Q P S) (p place : ℕ) (e : Entry) (f : Fault) (y : Board Q P S) : Type 0 where
    pub fault : f ≡ SaveFailed place
    pub saves : Saves m.store x.store place e (Err (record { place = place })) y.store
    pub table : y.table ≡ gone_down x.table p
    pub post : y.post ≡ x.post

  -- the row of participant p as it now is goes to these addressees
  abbrev pub Sends : Table Q → P → Sort → ℕ → ℕ → ℕ → ℕ → P → Type 0
  Sends t before sort p c to kept after = Puts m.post before (sent m.kind t.n sort p c to (row_of t p c)) (member to) kept after

  -- participant p's own entry becomes e, in the store and in its row, and the row goes to all others
  pub record Announced (x : Board Q P S) (sort : Sort) (p c : ℕ) (e : Entry) (kept : ℕ) (y : Board Q P S) : Type 0 where
    pub saves : Saves m.store x.store (place_of x.table p c) e (Ok tt) y.store
    pub table : y.table ≡ with_rows x.table (renewed x.table.rows (place_of x.table p c) p e)
    pub sends : Sends y.table x.post sort p c (all_but x.table.n p) kept y.post

  abbrev pub Announces : Board Q P S → Sort → ℕ → ℕ → Entry → Result ℕ Fault → Board Q P S → Type 0
  Announces x sort p c e (Err f) y = Stopped x p (place_of x.table p c) e f y
  Announces x sort p c e (Ok kept) y = Announced x sort p c e kept y

  -- prepare: the answer is a round, known by its numbers
  abbrev pub Prepares : {R : Type 0} → (R → Turn) → Board Q P S → ℕ → ℕ → ℤ → Result (R × ℕ) Fault → Board Q P S → Type 0
  Prepares turn x p c b (Err f) y =
      Refused (prepare_refusal x.table p c b) x f y
      ⊎ ((prepare_refusal x.table p c b ≡ None) × Stopped x p (place_of x.table p c) (promising (own x.table p c) b) f y)
  Prepares turn x p c b (Ok (round, kept)) y =
      (prepare_refusal x.table p c b ≡ None)
      × (turn round ≡ record { p = p; c = c; b = b })
      × Announced x Prepare p c (promising (own x.table p c) b) kept y

  -- a vote of participant p in ballot b, for the value that its row binds it to or else the wish
  abbrev pub Votes : Board Q P S → ℕ → ℕ → ℤ → V → Result (V × ℕ) Fault → Board Q P S → Type 0
  Votes x p c b wish (Err f) y =
      Refused (accept_refusal m.rule x.table p c b) x f y
      ⊎ ((accept_refusal m.rule x.table p c b ≡ None)
      × ((v : V)
      × Carries m.kind (row_of x.table p c) x.table.n wish v
      × Stopped x p (place_of x.table p c) (voting b (m.kind.code v)) f y))
  Votes x p c b wish (Ok (v, kept)) y =
      (accept_refusal m.rule x.table p c b ≡ None)
      × Carries m.kind (row_of x.table p c) x.table.n wish v
      × Announced x Accept p c (voting b (m.kind.code v)) kept y

  -- accept votes in the round's ballot, and hands the round back with every refusal
  abbrev pub Accepts : {R : Type 0} → (R → Turn) → Board Q P S → R → V → Result (V × ℕ) (Fault × R) → Board Q P S → Type 0
  Accepts turn x round wish (Err (f, back)) y = (back ≡ round) × Votes x (turn round).p (turn round).c (turn round).b wish (Err f) y
  Accepts turn x round wish (Ok answer) y = Votes x (turn round).p (turn round).c (turn round).b wish (Ok answer) y

  -- an ack that is owed goes with the row to the sender; where none is owed nothing is put
  abbrev pub AcksRow : Bool → ℕ → List Entry → P → ℕ → ℕ → ℕ → ℕ → P → Type 0
  AcksRow true n row before q c sender kept after = Puts m.post before (sent m.kind n Ack q c (single sender) row) (member (single sender)) kept after
  AcksRow false n row before q c sender kept after = (kept ≡ 0) × (after ≡ before)

  abbrev pub Acks : Bool → Table Q → P → ℕ → ℕ → ℕ → ℕ → P → Type 0
  Acks owed t before q c sender kept after = AcksRow owed t.n (row_of t q c) before q c sender kept after

  module _ (x : Board Q P S) (q : ℕ) (frame : Frame) where
    -- q's own entry before the step, and what it becomes by the sender's
    abbrev pub before_it : Entry
    before_it = own x.table q frame.header.cell

    abbrev pub after_it : Entry
    after_it = adopted before_it (entry_of frame frame.header.sender)

    -- q takes over what the sender knows
    pub record TookOver (kept : ℕ) (y : Board Q P S) : Type 0 where
      pub saves : SavesChange m.store x.store (place_of x.table q frame.header.cell) before_it after_it y.store
      pub table : y.table ≡ with_rows x.table
          (renewed (renewed x.table.rows (place_of x.table q frame.header.cell) frame.header.sender
          (seen (entry_at (row_of x.table q frame.header.cell) frame.header.sender) (entry_of frame frame.header.sender)))
          (place_of x.table q frame.header.cell) q after_it)
      pub acks : Acks (behind (entry_of frame q) after_it) y.table x.post q frame.header.cell frame.header.sender kept y.post

    abbrev pub TakesOver : Result ℕ Fault → Board Q P S → Type 0
    TakesOver (Err f) y = (after_it ≢ before_it) × Stopped x q (place_of x.table q frame.header.cell) after_it f y
    TakesOver (Ok kept) y = TookOver kept y

  -- receive: the door, then the reader, then the step
  abbrev pub Receives : Board Q P S → ℕ → List ℕ → Result ℕ Fault → Board Q P S → Type 0
  Receives x q bytes (Err f) y =
      Refused (door x.table q) x f y
      ⊎ ((door x.table q ≡ None)
      × (Refused (option_map passed_up (first_fault m.kind bytes x.table.n x.table.cells q)) x f y
      ⊎ ((frame : Frame) × Spells m.kind bytes x.table.n x.table.cells q frame × TakesOver x q frame (Err f) y)))
  Receives x q bytes (Ok kept) y =
      (door x.table q ≡ None)
      × ((frame : Frame) × Spells m.kind bytes x.table.n x.table.cells q frame × TakesOver x q frame (Ok kept) y)

  -- the board with another post
  abbrev pub posted : Board Q P S → P → Board Q P S
  posted x post = record { table = x.table; store = x.store; post = post }

  -- an item was taken into the buffer, and its frame received
  pub record Delivered (x : Board Q P S) (q k : ℕ) (out : List ℕ) (r : Result ℕ Fault) (y : Board Q P S) (filled : List ℕ) : Type 0 where
    pub open_door : door x.table q ≡ None
    pub long : ℕ
    pub post : P
    pub takes : Takes m.post x.post q k out (Some long) post filled
    pub receives : Receives (posted x post) q (take long filled) r y

  -- deliver: the door, then 9 where no such item waits
  abbrev pub Delivers : Board Q P S → ℕ → ℕ → List ℕ → Result ℕ Fault → Board Q P S → List ℕ → Type 0
  Delivers x q k out (Err f) y filled =
      (Refused (door x.table q) x f y × (filled ≡ out))
      ⊎ (((door x.table q ≡ None) × (f ≡ NoItem) × (y ≡ x) × Takes m.post x.post q k out None x.post filled)
      ⊎ Delivered x q k out (Err f) y filled)
  Delivers x q k out (Ok kept) y filled = Delivered x q k out (Ok kept) y filled

  abbrev pub ReadsOut : Table Q → ℕ → ℕ → Result (Option (ℤ × V)) Fault → Type 0
  ReadsOut t p c (Err f) = cell_door t p c ≡ Some f
  ReadsOut t p c (Ok shown) = (cell_door t p c ≡ None) × Shows m.kind (m.rule.chooses t.rule) (row_of t p c) t.n shown
