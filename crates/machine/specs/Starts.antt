-- Set-up and restart: rows that start again from the store. Assumes nothing.
use Rattle.std.specs.Prelude.{◌≡◌, ℕ, ◌+◌, ◌*◌, ◌<◌, ◌≤◌, Bool, true, false, ◌&&◌, ◌⊎◌, List, [], length, replicate, Some, None, Ok, Err, Option, Result, ◌==◌, nat_le, nat_lt, slice_index_or, slice_set}
use Rattle.model.specs.Entries.{none}
use Rattle.model.specs.declared.faults.Fault.TheVariants.{Unfit, Nowhere}
use Rattle.model.specs.Sets.{without}
use Rattle.model.specs.declared.entries.Entry.{Entry}
use Rattle.model.specs.declared.faults.Fault.{Fault}
use Rattle.model.specs.declared.rows.Row.{Row}
use Rattle.machine.specs.Board.{Makes, Table}
use Rattle.model.specs.Checks.{demand}

-- the row that a participant starts with: its own entry, and no view of anybody
abbrev pub first_row : ℕ → Entry → Row
first_row p own = record { entries = slice_set (replicate 7 none) p own }

abbrev pub row_in : List Row → ℕ → Row
row_in rows place = slice_index_or rows place (record { entries = [] })

module _ {V Q P S : Type 0} (m : Makes V Q P S) where
  -- participant p's rows start from the store, and all other rows stand
  pub record Reloaded (cells : ℕ) (store : S) (p : ℕ) (before after : List Row) : Type 0 where
    pub long : length after ≡ length before
    pub own : (c : ℕ) → c < cells → row_in after (p * cells + c) ≡ first_row p (m.store.at store (p * cells + c))
    pub others : (k : ℕ) → (k < p * cells) ⊎ (p * cells + cells ≤ k) → row_in after k ≡ row_in before k

  -- the rows of n participants all start from the store
  abbrev pub FirstRows : ℕ → ℕ → S → List Row → Type 0
  FirstRows n cells store rows = (p c : ℕ) → p < n → c < cells → row_in rows (p * cells + c) ≡ first_row p (m.store.at store (p * cells + c))

  -- restart is refused by 2 alone
  abbrev pub restart_refusal : Table Q → ℕ → Option Fault
  restart_refusal t p = demand (nat_lt p t.n && length t.rows == t.n * t.cells) Nowhere

  pub record Restarted (t : Table Q) (store : S) (p : ℕ) (u : Table Q) : Type 0 where
    pub reloaded : Reloaded t.cells store p t.rows u.rows
    pub table : u ≡ record { n = t.n; cells = t.cells; rule = t.rule; down = without t.down p; rows = u.rows }

  abbrev pub Restarts : Table Q → S → ℕ → Result (Unit {0}) Fault → Table Q → Type 0
  Restarts t store p (Err f) u = (restart_refusal t p ≡ Some f) × (u ≡ t)
  Restarts t store p (Ok _) u = (restart_refusal t p ≡ None) × Restarted t store p u

  -- what a register can be set up over
  abbrev pub fits : ℕ → ℕ → Q → ℕ → S → Bool
  fits n cells rule rows store =
      nat_le 2 n && nat_le n 7 && nat_le 1 cells && nat_le cells 64 && rows == n * cells && m.rule.size rule == n && nat_le (n * cells) (m.store.places store)

  -- every participant's rows start from the store, and nobody is down
  pub record Started (n cells : ℕ) (rule : Q) (store : S) (t : Table Q) : Type 0 where
    pub table : t ≡ record { n = n; cells = cells; rule = rule; down = 0; rows = t.rows }
    pub long : length t.rows ≡ n * cells
    pub own : FirstRows n cells store t.rows

  -- set-up: the answer and the rows after it make the table
  abbrev pub SetsUp : {R : Type 0} → (R → List Row → Table Q) → ℕ → ℕ → Q → List Row → S → Result R Fault → List Row → Type 0
  SetsUp table n cells rule rows store (Err f) after = (fits n cells rule (length rows) store ≡ false) × (f ≡ Unfit) × (after ≡ rows)
  SetsUp table n cells rule rows store (Ok r) after = (fits n cells rule (length rows) store ≡ true) × Started n cells rule store (table r after)
