-- Two worked runs of a register of three participants and one cell, under the majority rule and of glyph numbers. Assumes nothing.
use Rattle.std.specs.Prelude.{◌≡◌, ℕ, true, not, ◌&&◌, ◌||◌, List, [], ◌∷◌, ◌++◌, reverse, length, drop, replicate, pos, None, Ok, Err, ◌==◌, nat_lt, slice_index_or}
use Rattle.std.proofs.Common.{leb→le}
use Rattle.std.specs.List.{All}
use Rattle.std.proofs.lemmas.List.Elements.{All-nil}
use Rattle.frames.specs.declared.sort.Sort.{Sort}
use Rattle.frames.specs.declared.sort.Sort.TheVariants.{Prepare, Accept, Ack}
use Rattle.kinds.specs.Glyphs.{glyph_numbers}
use Rattle.kinds.specs.declared.glyph.Glyph.{Glyph}
use Rattle.ledger.specs.Examples.{three}
use Rattle.model.specs.Entries.{none, clean}
use Rattle.model.specs.declared.faults.Fault.TheVariants.{SaveFailed}
use Rattle.model.specs.Sets.{all_but, single}
use Rattle.model.specs.declared.entries.Entry.{Entry}
use Rattle.posts.specs.Meaning.{Item, PostMeaning, PostLaws, sendable, addressed}
use Rattle.quorums.specs.Majorities.{majority}
use Rattle.quorums.specs.declared.majority.Majority.{Majority}
use Rattle.steps.specs.Entries.{promising, voting}
use Rattle.stores.specs.Meaning.{StoreMeaning, StoreLaws, Fresh}
use Rattle.machine.specs.Board.{Makes, makes, Board, Turn, row_of}
use Rattle.machine.specs.Calls.{sent, ReadsOut}
use Rattle.machine.specs.Law.{Reads, Law}
use Rattle.machine.specs.Runs.{Event, prepare, accept, deliver, restart, Run}
use Rattle.machine.specs.Starts.{first_row, fits, Started}

-- a post that keeps each frame it can carry, for all it is offered to
pub record Pile : Type 0 where
  pub items : List Item
  pub carried : All (λ item. sendable item.frame ≡ true) items

abbrev pub pile_means : PostMeaning Pile
pile_means = record { items = λ p. p.items; keeps = λ p frame to q. sendable frame && to q }

-- a store of which one save fails, the so-many-th from now on, or none where that is 0
pub record Slate : Type 0 where
  pub entries : List Entry
  pub until : ℕ

abbrev pub slate_means : StoreMeaning Slate
slate_means = record {
  places = λ s. length s.entries;
  at = λ s k. clean (slice_index_or s.entries k none);
  fails = λ s k e. not (nat_lt k (length s.entries)) || (s.until == 1);
}

abbrev pub plain : Makes Glyph Majority Pile Slate
plain = makes glyph_numbers majority pile_means slate_means

-- nothing was saved or put yet
abbrev pub start : ℕ → Board Majority Pile Slate
start until = record {
  table = record { n = 3; cells = 1; rule = three; down = 0; rows = first_row 0 none ∷ first_row 1 none ∷ first_row 2 none ∷ [] };
  store = record { entries = none ∷ none ∷ none ∷ []; until = until };
  post = record { items = []; carried = All-nil (λ item. sendable item.frame ≡ true) };
}

abbrev pub sixty_eight : Glyph
sixty_eight = record { number = 68; ok = leb→le 68 65534 tt }

abbrev pub ninety_nine : Glyph
ninety_nine = record { number = 99; ok = leb→le 99 65534 tt }

-- participant p's round with ballot b in the one cell
abbrev pub turn : ℕ → ℕ → Turn
turn p b = record { p = p; c = 0; b = pos b }

-- participant p's frame of these three entries
abbrev pub of_three : Sort → ℕ → ℕ → Entry → Entry → Entry → List ℕ
of_three sort p to a b c = sent glyph_numbers 3 sort p 0 to (a ∷ b ∷ c ∷ [])

abbrev pub buffer : List ℕ
buffer = replicate 88 0

-- the first item that waits for q has this frame, and so many acks are kept
abbrev pub delivery : ℕ → List ℕ → ℕ → Event Glyph
delivery q frame kept = deliver q 0 buffer (Ok kept) (frame ++ drop (length frame) buffer)

-- the entries of the first round, which asks for 3 and votes for 68
abbrev pub asks : Entry
asks = promising none (pos 3)

abbrev pub votes : Entry
votes = voting (pos 3) 68

-- 0 prepares its ballot 3, and 1 promises it
abbrev pub asking : List (Event Glyph)
asking =
    prepare 0 0 (pos 3) (Ok (turn 0 3, 2))
    ∷ delivery 1 (of_three Prepare 0 (all_but 3 0) asks none none) 1
    ∷ delivery 0 (of_three Ack 1 (single 0) asks asks none) 0
    ∷ []

-- 0 accepts 68, and 1 votes with it
abbrev pub choosing : List (Event Glyph)
choosing =
    accept (turn 0 3) sixty_eight (Ok (sixty_eight, 2))
    ∷ delivery 1 (of_three Accept 0 (all_but 3 0) votes asks none) 1
    ∷ delivery 0 (of_three Ack 1 (single 0) votes votes none) 0
    ∷ []

-- the save of 0's vote fails, and 0 starts again
abbrev pub failing : List (Event Glyph)
failing = accept (turn 0 3) sixty_eight (Err (SaveFailed 0, turn 0 3)) ∷ restart 0 (Ok tt) ∷ []

-- the entries of the second round, with ballot 4
abbrev pub asks_again : Entry
asks_again = promising asks (pos 4)

abbrev pub promises_again : Entry
promises_again = promising votes (pos 4)

abbrev pub votes_again : Entry
votes_again = voting (pos 4) 68

-- 1 prepares its ballot 4 and learns of 0's vote; it accepts with the wish 99, and has to vote for 68
abbrev pub carrying : List (Event Glyph)
carrying =
    prepare 1 0 (pos 4) (Ok (turn 1 4, 2))
    ∷ delivery 0 (of_three Prepare 1 (all_but 3 1) asks asks_again none) 1
    ∷ delivery 1 (of_three Ack 0 (single 1) promises_again asks_again none) 0
    ∷ accept (turn 1 4) ninety_nine (Ok (sixty_eight, 2))
    ∷ delivery 0 (of_three Accept 1 (all_but 3 1) promises_again votes_again none) 1
    ∷ delivery 1 (of_three Ack 0 (single 1) votes_again votes_again none) 0
    ∷ []

pub record Worked : Type 0 where
  -- the register is started and fresh, and the law speaks of it, whichever save fails
  pub fitting : (until : ℕ) → fits plain 3 1 three 3 (start until).store ≡ true
  pub started : (until : ℕ) → Started plain 3 1 three (start until).store (start until).table
  pub fresh : (until : ℕ) → Fresh slate_means (start until).store
  pub posts : PostLaws pile_means
  pub stores : StoreLaws slate_means
  pub lawful : (until : ℕ) → Law plain (start until)
  -- a value is chosen, and 2, which has heard nothing, reads nothing
  pub chosen : Board Majority Pile Slate
  pub chooses : Run plain (start 0) (reverse (asking ++ choosing)) chosen
  pub reads : Reads plain chosen 0 0 (pos 3) sixty_eight
  pub unheard : ReadsOut plain chosen.table 2 0 (Ok None)
  -- where the third save fails but keeps the entry, 0 restarts with its vote, of which no frame went out
  pub restarted : Board Majority Pile Slate
  pub fails : Run plain (start 3) (reverse (asking ++ failing)) restarted
  pub keeps_vote : row_of restarted.table 0 0 ≡ (first_row 0 votes).entries
  pub unsent : restarted.post.items ≡ addressed (of_three Prepare 0 (all_but 3 0) asks none none) 2 ∷ []
  -- so a second round carries the first value
  pub settled : Board Majority Pile Slate
  pub carries : Run plain restarted (reverse carrying) settled
  pub reads_first : Reads plain settled 1 0 (pos 4) sixty_eight
