-- Which refusal comes first. Assumes nothing.
use Rattle.std.specs.Prelude.{◌≡◌, ℕ, ◌*◌, ◌%◌, Bool, false, not, ◌&&◌, List, length, ℤ, pos, negsuc, Some, None, Ok, Err, Option, Result, ◌==◌, int_lt, nat_le, nat_lt}
use Rattle.std.specs.Option.{option_or}
use Rattle.model.specs.declared.faults.Fault.TheVariants.{Nowhere, IsDown, NotItsBallot, PromisedAlready, NotPromised, VotedAlready, TooFew}
use Rattle.model.specs.Checks.{demand}
use Rattle.model.specs.Sets.{member}
use Rattle.model.specs.declared.entries.Entry.{Entry}
use Rattle.model.specs.declared.faults.Fault.{Fault}
use Rattle.steps.specs.Rows.{same_ballot, entry_at, promised}
use Rattle.quorums.specs.Meaning.{RuleMeaning}
use Rattle.machine.specs.Board.{Table, row_of}

-- checks that lead to something: the fault, or a thing of which P holds
abbrev pub Opens : {X : Type 0} → Option Fault → (X → Type 0) → Result X Fault → Type 0
Opens checks P (Err fault) = checks ≡ Some fault
Opens checks P (Ok x) = (checks ≡ None) × P x

-- a ballot from 0 to 16777214 belongs to the participant b mod n
abbrev pub owns : ℕ → ℕ → ℤ → Bool
owns n p (pos b) = nat_le b 16777214 && b % n == p
owns n p (negsuc k) = false

-- 2 and 3 of a call that names a participant, over so many rows
abbrev pub door_at : ℕ → ℕ → ℕ → ℕ → ℕ → Option Fault
door_at n cells down rows p =
    option_or (demand (nat_lt p n && rows == n * cells) Nowhere) (demand (not (member down p)) IsDown)

-- 2 and 3 of a call that names a participant and a cell
abbrev pub cell_door_at : ℕ → ℕ → ℕ → ℕ → ℕ → ℕ → Option Fault
cell_door_at n cells down rows p c =
    option_or (demand (nat_lt p n && nat_lt c cells && rows == n * cells) Nowhere) (demand (not (member down p)) IsDown)

module _ {Q : Type 0} (t : Table Q) where
  abbrev pub door : ℕ → Option Fault
  door p = door_at t.n t.cells t.down (length t.rows) p

  abbrev pub cell_door : ℕ → ℕ → Option Fault
  cell_door p c = cell_door_at t.n t.cells t.down (length t.rows) p c

-- 4 and 5 of participant p with ballot b, over its row
abbrev pub promise_fault : ℕ → List Entry → ℕ → ℤ → Option Fault
promise_fault n row p b =
    option_or (demand (owns n p b) NotItsBallot) (demand (int_lt (entry_at row p).promise b) PromisedAlready)

-- prepare: the door, then 4 and 5
abbrev pub prepare_refusal : {Q : Type 0} → Table Q → ℕ → ℕ → ℤ → Option Fault
prepare_refusal t p c b = option_or (cell_door t p c) (promise_fault t.n (row_of t p c) p b)

module _ {Q : Type 0} (m : RuleMeaning Q) where
  -- 6, 7 and 8 of participant p with a round's ballot b, over its row
  abbrev pub vote_fault : Q → ℕ → List Entry → ℕ → ℤ → Option Fault
  vote_fault rule n row p b =
      option_or (demand (owns n p b) NotPromised)
      (option_or (demand (same_ballot (entry_at row p).promise b) NotPromised)
      (option_or (demand (not (same_ballot (entry_at row p).vote b)) VotedAlready)
      (demand (m.promises rule (promised row n b)) TooFew)))

  -- accept: the door, then 6, 7 and 8
  abbrev pub accept_refusal : Table Q → ℕ → ℕ → ℤ → Option Fault
  accept_refusal t p c b = option_or (cell_door t p c) (vote_fault t.rule t.n (row_of t p c) p b)
