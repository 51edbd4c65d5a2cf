-- A run: one call after another over one board, taken or refused. Assumes nothing.
use Rattle.std.specs.Prelude.{◌≡◌, ℕ, ◌*◌, ◌⊎◌, List, [], ◌∷◌, length, ℤ, Result}
use Rattle.model.specs.declared.faults.Fault.{Fault}
use Rattle.model.specs.declared.rows.Row.{Row}
use Rattle.machine.specs.Board.{Makes, Board, Turn, with_rows}
use Rattle.machine.specs.Calls.{Prepares, Accepts, Delivers}
use Rattle.machine.specs.Starts.{Restarts}

-- a call with its arguments and its answer; a delivery with its buffer before and after
pub data Event (V : Type 0) : Type 0 where
  prepare : (p c : ℕ) (b : ℤ) → Result (Turn × ℕ) Fault → Event V
  accept : (round : Turn) (v : V) → Result (V × ℕ) (Fault × Turn) → Event V
  abandon : (round : Turn) → Event V
  deliver : (q k : ℕ) (out : List ℕ) → Result ℕ Fault → (filled : List ℕ) → Event V
  restart : (p : ℕ) → Result (Unit {0}) Fault → Event V

module _ {V Q P S : Type 0} (m : Makes V Q P S) where
  -- what the call does to the board
  abbrev pub Does : Board Q P S → Event V → Board Q P S → Type 0
  Does x (prepare p c b r) y = Prepares m (λ round. round) x p c b r y
  Does x (accept round v r) y = Accepts m (λ round. round) x round v r y
  Does x (abandon round) y = y ≡ x
  Does x (deliver q k out r filled) y = Delivers m x q k out r y filled
  Does x (restart p r) y = Restarts m x.table x.store p r y.table × (y.store ≡ x.store) × (y.post ≡ x.post)

  -- the board with other rows in its table
  abbrev pub over : Board Q P S → List Row → Board Q P S
  over x rows = record { table = with_rows x.table rows; store = x.store; post = x.post }

  -- a call over rows that are not n * cells, beside which the register's own rows stand
  pub record Astray (x : Board Q P S) (e : Event V) (y : Board Q P S) : Type 0 where
    pub rows : List Row
    pub wrong : length rows ≡ x.table.n * x.table.cells → ⊥
    pub after : Board Q P S
    pub does : Does (over x rows) e after
    pub back : y ≡ over after x.table.rows

  abbrev pub Step : Board Q P S → Event V → Board Q P S → Type 0
  Step x e y = Does x e y ⊎ Astray x e y

  -- the events between two boards, the newest first
  pub data Run (x : Board Q P S) : List (Event V) → Board Q P S → Type 0 where
    start : Run x [] x
    more : {es : List (Event V)} {e : Event V} {y z : Board Q P S} → Run x es y → Step y e z → Run x (e ∷ es) z
