-- Worked examples of the definitions, each with its numbers. Assumes nothing.
use Rattle.std.specs.Prelude.{◌≡◌, ℕ, List, [], ◌∷◌, replicate, pos, Some, None, slice_set}
use Rattle.frames.specs.declared.sort.Sort.TheVariants.{Prepare}
use Rattle.kinds.specs.Examples.{GlyphExamples, PlaceExamples}
use Rattle.kinds.specs.Glyphs.{glyph_numbers}
use Rattle.ledger.specs.Examples.{three}
use Rattle.model.specs.Entries.{none}
use Rattle.model.specs.declared.faults.Fault.TheVariants.{NotItsBallot, TooFew}
use Rattle.model.specs.Sets.{all_but}
use Rattle.model.specs.declared.entries.Entry.{Entry}
use Rattle.quorums.specs.Examples.{MajorityExamples, WeightedExamples}
use Rattle.quorums.specs.Majorities.{majority}
use Rattle.steps.specs.Entries.{promising, voting}
use Rattle.steps.specs.Rows.{Shows}
use Rattle.machine.specs.Calls.{sent}
use Rattle.machine.specs.Refusals.{promise_fault, vote_fault}
use Rattle.machine.specs.Starts.{first_row}

-- participant p's row where nothing was saved yet
abbrev pub fresh_row : ℕ → List Entry
fresh_row p = (first_row p none).entries

-- participant 0's row after its prepare of ballot 3
abbrev pub asking_row : List Entry
asking_row = slice_set (fresh_row 0) 0 (promising none (pos 3))

-- a row that shows votes in ballots 3 and 4 and a participant without one
abbrev pub split_row : List Entry
split_row = voting (pos 3) 68 ∷ voting (pos 4) 99 ∷ none ∷ none ∷ none ∷ none ∷ none ∷ []

-- of three participants, where no other number is named
pub record Specimens : Type 0 where
  -- the frame of the first prepare of ballot 3 by participant 0 in cell 0, of kind 1
  pub frame : sent glyph_numbers 3 Prepare 0 0 (all_but 3 0) asking_row ≡ 0x13 ∷ 0x01 ∷ 0x06 ∷ 0x00 ∷ 0x00 ∷ 0x00 ∷ 0x04 ∷ replicate 33 0x00
  -- ballot 4 is not participant 0's
  pub not_its_own : promise_fault 3 (fresh_row 0) 0 (pos 4) ≡ Some NotItsBallot
  -- 16777214 is the last ballot, and participant 2's; the next is nobody's
  pub last_ballot : promise_fault 3 (fresh_row 2) 2 (pos 16777214) ≡ None
  pub past_last : (p : ℕ) → promise_fault 3 (fresh_row p) p (pos 16777215) ≡ Some NotItsBallot
  -- an accept before any ack
  pub unpromised : vote_fault majority three 3 asking_row 0 (pos 3) ≡ Some TooFew
  -- two of four do not suffice, three do
  pub majorities : MajorityExamples
  -- weights 3, 1 and 1 with thresholds 3 and 3, and with 2 and 3
  pub weights : WeightedExamples
  -- the code of a place at the ends of its axes, and a coordinate off them
  pub places : PlaceExamples
  -- the last glyph number, and the one past it
  pub glyphs : GlyphExamples
  -- votes in two ballots and none choose nothing
  pub undecided : Shows glyph_numbers (majority.chooses three) split_row 3 None
