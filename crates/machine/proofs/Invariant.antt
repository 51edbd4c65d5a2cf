-- What ties the board of a run to one ledger for each cell. Assumes nothing.
use Rattle.std.proofs.Common.{◌≡◌, ℕ, ◌*◌, ◌<◌, ◌≤◌, true, false, List, length}
use Rattle.std.specs.List.{All}
use Rattle.frames.specs.Layout.{Heading, Sound, laid_out}
use Rattle.ledger.specs.Growth.{PastRow, Kept}
use Rattle.ledger.specs.Ledgers.{Ledger, latest}
use Rattle.model.specs.Sets.{member}
use Rattle.model.specs.declared.entries.Entry.{Entry}
use Rattle.posts.specs.Meaning.{Item}
use Rattle.steps.specs.Rows.{entry_at}
use Rattle.machine.specs.Board.{Makes, Board, row_of, own}
use Rattle.machine.specs.Law.{Handed, stored}
use Rattle.machine.specs.Runs.{Event}

module _ {V Q P S : Type 0} (m : Makes V Q P S) where
  -- a frame that a register of n participants and so many cells put: entries that their owners held
  pub record Ours (n cells : ℕ) (ledger : ℕ → Ledger) (item : Item) : Type 0 where
    pub heading : Heading
    pub entries : List Entry
    pub laid : item.frame ≡ laid_out heading entries
    pub sound : Sound heading
    pub same_n : heading.n ≡ n
    pub same_kind : heading.kind ≡ m.kind.number
    pub cell : heading.cell < cells
    pub addressee : member heading.to item.to ≡ true
    pub long : length entries ≡ n
    pub past : PastRow (ledger heading.cell) n (entry_at entries)

  -- the code of a value that was handed to an accept of the cell
  abbrev pub HandedCode : List (Event V) → ℕ → ℕ → Type 0
  HandedCode es c code = (v : V) × Handed es c v × (m.kind.code v ≡ code)

  pub record Tied (n cells : ℕ) (rule : Q) (es : List (Event V)) (x : Board Q P S) : Type 0 where
    pub same_n : x.table.n ≡ n
    pub same_cells : x.table.cells ≡ cells
    pub same_rule : x.table.rule ≡ rule
    pub size : m.rule.size rule ≡ n
    pub some : 2 ≤ n
    pub few : n ≤ 7
    pub few_cells : cells ≤ 64
    pub all : length x.table.rows ≡ n * cells
    pub places : n * cells ≤ m.store.places x.store
    -- every row has seven entries
    pub shaped : (p c : ℕ) → p < n → c < cells → length (row_of x.table p c) ≡ 7
    pub ledger : ℕ → Ledger
    pub kept : (c : ℕ) → c < cells → Kept m.rule rule (HandedCode es c) (ledger c)
    pub store : (i c : ℕ) → i < n → c < cells → stored m x i c ≡ latest (ledger c) i
    pub own : (p c : ℕ) → p < n → c < cells → member x.table.down p ≡ false → own x.table p c ≡ latest (ledger c) p
    pub rows : (p c : ℕ) → p < n → c < cells → PastRow (ledger c) n (entry_at (row_of x.table p c))
    pub frames : All (Ours n cells ledger) (m.post.items x.post)
