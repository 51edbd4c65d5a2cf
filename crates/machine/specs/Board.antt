-- A register with its rows, its store and its post, as a call finds and leaves them. Assumes nothing.
use Rattle.std.specs.Prelude.{ℕ, ◌+◌, ◌*◌, List, [], ℤ, slice_index_or, slice_set}
use Rattle.kinds.specs.Meaning.{KindMeaning}
use Rattle.model.specs.Sets.{with}
use Rattle.model.specs.declared.entries.Entry.{Entry}
use Rattle.model.specs.declared.rows.Row.{Row}
use Rattle.posts.specs.Meaning.{PostMeaning}
use Rattle.quorums.specs.Meaning.{RuleMeaning}
use Rattle.steps.specs.Rows.{entry_at}
use Rattle.stores.specs.Meaning.{StoreMeaning}

-- what the four makes mean
pub record Makes (V Q P S : Type 0) : Type 0 where
  pub kind : KindMeaning V
  pub rule : RuleMeaning Q
  pub post : PostMeaning P
  pub store : StoreMeaning S

abbrev pub makes : {V Q P S : Type 0} → KindMeaning V → RuleMeaning Q → PostMeaning P → StoreMeaning S → Makes V Q P S
makes kind rule post store = record { kind = kind; rule = rule; post = post; store = store }

-- the register, who of it is down (as a mask), and the rows of all participants
pub record Table (Q : Type 0) : Type 0 where
  pub n : ℕ
  pub cells : ℕ
  pub rule : Q
  pub down : ℕ
  pub rows : List Row

-- the table with the store and the post
pub record Board (Q P S : Type 0) : Type 0 where
  pub table : Table Q
  pub store : S
  pub post : P

-- whose round it is, in which cell, with which ballot
pub record Turn : Type 0 where
  pub p : ℕ
  pub c : ℕ
  pub b : ℤ

-- the entries of one row of the table
abbrev pub row_at : List Row → ℕ → List Entry
row_at rows place = (slice_index_or rows place (record { entries = [] })).entries

-- the rows, with another entry of participant i in one of them
abbrev pub renewed : List Row → ℕ → ℕ → Entry → List Row
renewed rows place i e = slice_set rows place (record { entries = slice_set (row_at rows place) i e })

module _ {Q : Type 0} (t : Table Q) where
  -- where participant p keeps cell c, in the table and in the store
  abbrev pub place_of : ℕ → ℕ → ℕ
  place_of p c = p * t.cells + c

  abbrev pub row_of : ℕ → ℕ → List Entry
  row_of p c = row_at t.rows (place_of p c)

  -- participant p's own entry, as it counts
  abbrev pub own : ℕ → ℕ → Entry
  own p c = entry_at (row_of p c) p

  -- the table after participant p went down
  abbrev pub gone_down : ℕ → Table Q
  gone_down p = record { n = t.n; cells = t.cells; rule = t.rule; down = with t.down p; rows = t.rows }

  abbrev pub with_rows : List Row → Table Q
  with_rows rows = record { n = t.n; cells = t.cells; rule = t.rule; down = t.down; rows = rows }
