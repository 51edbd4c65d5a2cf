-- A register with its rows, its line and its page, as a session runs it. Assumes nothing.
use Rattle.std.specs.Prelude.{◌≡◌, ℕ, ◌*◌, true, false, cond, [], ℤ, pos, negsuc, Some, None, Ok, Err, vec_items, Option, Result, nat_lt}
use Rattle.kinds.specs.Glyphs.{glyph_numbers}
use Rattle.kinds.specs.declared.glyph.Glyph.{Glyph}
use Rattle.machine.specs.Board.{Makes, makes, Board, Turn}
use Rattle.machine.specs.Starts.{Started}
use Rattle.model.specs.declared.faults.Fault.{Fault}
use Rattle.posts.specs.Lines.{line_items, line_means}
use Rattle.posts.specs.declared.line.Line.{Line}
use Rattle.quorums.specs.Majorities.{majority, made_majority}
use Rattle.quorums.specs.declared.majority.Majority.{Majority}
use Rattle.stores.specs.Meaning.{Fresh}
use Rattle.stores.specs.Page.{page_means}
use Rattle.stores.specs.declared.page.PageStore.{PageStore}
use Rattle.register.specs.Ranges.{in_range}
use Rattle.register.specs.State.{board}
use Rattle.register.specs.declared.bench.Bench.{Bench}

-- glyph numbers, majority, a line and a page store
abbrev pub our_makes : Makes Glyph Majority Line PageStore
our_makes = makes glyph_numbers majority line_means page_means

abbrev pub bench_board : Bench → Board Majority Line PageStore
bench_board bench = board bench.register (vec_items bench.rows) bench.page bench.line

-- a number as the register is handed it: one that is no ballot anyway may come as -1
abbrev pub as_ballot : ℕ → ℤ
as_ballot b = cond (nat_lt b 2147483647) (pos b) (negsuc 0)

-- the answer of a prepare for participant p and cell c that tells the ballot alone, with the round
abbrev pub of_ballot : ℕ → ℕ → Result (ℤ × ℕ) Fault → Result (Turn × ℕ) Fault
of_ballot p c (Ok (b, kept)) = Ok (record { p = p; c = c; b = b }, kept)
of_ballot p c (Err f) = Err f

-- the answer of an accept without the round that a refusal hands back, with it
abbrev pub handed_back : Turn → Result (Glyph × ℕ) Fault → Result (Glyph × ℕ) (Fault × Turn)
handed_back round (Ok answer) = Ok answer
handed_back round (Err f) = Err (f, round)

-- the register is set up, and nothing is stored or sent yet
pub record Laid (n cells : ℕ) (y : Board Majority Line PageStore) : Type 0 where
  pub rule : made_majority n ≡ Ok y.table.rule
  pub started : Started our_makes n cells y.table.rule y.store y.table
  pub places : page_means.places y.store ≡ n * cells
  pub fresh : Fresh page_means y.store
  pub empty : line_items y.post ≡ []

-- a register of n participants and so many cells, where they are in range
abbrev pub Lays : ℕ → ℕ → Option (Board Majority Line PageStore) → Type 0
Lays n cells None = in_range n cells ≡ false
Lays n cells (Some y) = (in_range n cells ≡ true) × Laid n cells y
