-- What reading answers: the first fault of the bytes in the order of the checks, or the frame that they spell. Assumes nothing.
use Rattle.std.specs.Prelude.{◌≡◌, ℕ, zero, suc, ◌+◌, ◌-◌, ◌*◌, ◌/◌, ◌%◌, ◌<◌, Bool, true, not, ◌&&◌, ◌||◌, List, ◌++◌, map, length, take, replicate, pos, is_some, Some, None, Ok, Err, Option, Result, MatchResult, ◌==◌, int_le, int_lt, nat_le, nat_lt, slice_index}
use Rattle.std.specs.List.{All}
use Rattle.std.specs.Option.{option_or}
use Rattle.kinds.specs.Meaning.{KindMeaning}
use Rattle.model.specs.declared.entries.Entry.{Entry}
use Rattle.model.specs.declared.rows.Row.{Row}
use Rattle.model.specs.Checks.{demand}
use Rattle.model.specs.Entries.{none, is_entry, clean}
use Rattle.model.specs.Sets.{member}
use Rattle.frames.specs.declared.fault.ReaderFault.{ReaderFault}
use Rattle.frames.specs.declared.header.Header.{Header}
use Rattle.frames.specs.declared.reader.Frame.{Frame}
use Rattle.frames.specs.declared.fault.ReaderFault.TheVariants.{IllFormed, NotForUs}
use Rattle.frames.specs.Layout.{Heading, Sound, edition, heading_of, heading_in, laid_out, entry_in, entries_in}
use Rattle.frames.specs.Sorts.{sort_of, well_addressed}

-- of several checks the earliest counts: a length of 4 at least, then the fields in the order of the layout, with the whole length after n
abbrev pub header_fault : List ℕ → Option ReaderFault
header_fault bytes =
    option_or (demand (nat_le 4 (length bytes)) (IllFormed (length bytes)))
    (option_or (demand (is_some (sort_of (slice_index bytes 0 / 64))) (IllFormed 0))
    (option_or (demand (slice_index bytes 0 / 16 % 4 == edition) (IllFormed 0))
    (option_or (demand (nat_le 2 (heading_in bytes).n && nat_le (heading_in bytes).n 7) (IllFormed 0))
    (option_or (demand (length bytes == 4 + 12 * (heading_in bytes).n) (IllFormed (length bytes)))
    (option_or (demand (nat_lt (heading_in bytes).sender (heading_in bytes).n) (IllFormed 1))
    (demand (well_addressed (heading_in bytes).sort (heading_in bytes).n (heading_in bytes).sender (heading_in bytes).to) (IllFormed 2)))))))

abbrev pub HeaderRead : List ℕ → Result Header ReaderFault → Type 0
HeaderRead bytes (Err fault) = header_fault bytes ≡ Some fault
HeaderRead bytes (Ok header) = (header_fault bytes ≡ None) × (heading_of header ≡ heading_in bytes) × (length bytes ≡ 4 + 12 * header.n)

-- an entry at a place: its vote is within its promise, it has no code without a vote, and where it votes its code counts
abbrev pub entry_fault : Bool → Entry → ℕ → Option ReaderFault
entry_fault counts e place =
    option_or (demand (int_le e.vote e.promise) (IllFormed (place + 3)))
    (option_or (demand (int_le (pos 0) e.vote || e.code == 0) (IllFormed (place + 6)))
    (demand (int_lt e.vote (pos 0) || counts) (IllFormed (place + 6))))

-- the first fault among so many checks
abbrev pub first_of : (ℕ → Option ReaderFault) → ℕ → Option ReaderFault
first_of check zero = None
first_of check (suc k) = option_or (first_of check k) (check k)

-- the entries of n participants, and none in the slots past them
abbrev pub row_in : List ℕ → ℕ → Row
row_in bytes n = record { entries = entries_in bytes n ++ replicate (7 - n) none }

module _ {V : Type 0} (m : KindMeaning V) where
  -- in a frame of the kind a code has to have a value
  abbrev pub code_counts : ℕ → ℕ → Bool
  code_counts kind code = not (kind == m.number) || is_some (m.value code)

  abbrev pub fault_at : List ℕ → ℕ → ℕ → Option ReaderFault
  fault_at bytes kind i = entry_fault (code_counts kind (entry_in bytes i).code) (entry_in bytes i) (4 + 12 * i)

  -- for participant q of a register of n participants and so many cells
  abbrev pub address_fault : Heading → ℕ → ℕ → ℕ → Option ReaderFault
  address_fault h n cells q =
      option_or (demand (h.n == n) (NotForUs 0))
      (option_or (demand (h.kind == m.number) (NotForUs 1))
      (option_or (demand (member h.to q) (NotForUs 2))
      (demand (nat_lt h.cell cells) (NotForUs 3))))

  pub record ForUs (h : Heading) (n cells q : ℕ) : Type 0 where
    pub same_n : h.n ≡ n
    pub same_kind : h.kind ≡ m.number
    pub addressed : member h.to q ≡ true
    pub within : h.cell < cells

  unfoldable pub first_fault : List ℕ → ℕ → ℕ → ℕ → Option ReaderFault
  first_fault bytes n cells q =
      option_or (header_fault bytes)
      (option_or (first_of (fault_at bytes (heading_in bytes).kind) (heading_in bytes).n)
      (address_fault (heading_in bytes) n cells q))

  -- where an entry votes its code has a value
  abbrev pub valued : Entry → Bool
  valued e = int_lt e.vote (pos 0) || is_some (m.value e.code)

  -- the frame that the bytes spell for participant q; no other bytes spell it
  pub record Spells (bytes : List ℕ) (n cells q : ℕ) (frame : Frame) : Type 0 where
    pub faultless : first_fault bytes n cells q ≡ None
    pub heading : heading_of frame.header ≡ heading_in bytes
    pub row : frame.row ≡ row_in bytes n
    pub only_so : bytes ≡ laid_out (heading_of frame.header) (take n frame.row.entries)
    pub proper : All (λ e. is_entry e ≡ true) frame.row.entries
    pub counts : All (λ e. valued e ≡ true) frame.row.entries
    pub for_us : ForUs (heading_of frame.header) n cells q

  abbrev pub Reads : List ℕ → ℕ → ℕ → ℕ → Result Frame ReaderFault → Type 0
  Reads bytes n cells q (Err fault) = first_fault bytes n cells q ≡ Some fault
  Reads bytes n cells q (Ok frame) = Spells bytes n cells q frame

  -- the entries of n participants, each with a value where it votes; what is no entry counts as none
  pub record Complete (n : ℕ) (es : List Entry) : Type 0 where
    pub long : length es ≡ n
    pub counts : All (λ e. valued (clean e) ≡ true) es

  -- what was laid out for participant q gives back its header and its entries
  abbrev pub ReadsBack : List ℕ → ℕ → ℕ → ℕ → Result Frame ReaderFault → Type 0
  ReadsBack bytes n cells q r =
      (h : Heading) (es : List Entry) → Sound h → ForUs h n cells q → Complete n es → bytes ≡ laid_out h es →
      MatchResult r (λ frame. (heading_of frame.header ≡ h) × (take n frame.row.entries ≡ map clean es)) (λ _. ⊥)

  pub record Answered (bytes : List ℕ) (n cells q : ℕ) (r : Result Frame ReaderFault) : Type 0 where
    pub reads : Reads bytes n cells q r
    pub back : ReadsBack bytes n cells q r
