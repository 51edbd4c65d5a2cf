-- What has to hold of a frame: a table in the order of the layout, each row with the fault where it does not hold. Assumes nothing.
use Rattle.std.specs.Prelude.{ℕ, ◌+◌, ◌*◌, ◌/◌, ◌%◌, Bool, cond, ◌&&◌, ◌||◌, List, [], ◌∷◌, ◌++◌, length, pos, is_some, Some, None, Option, ◌==◌, int_le, int_lt, nat_le, nat_lt, slice_index}
use Rattle.std.specs.List.{range_with_len, flat_map}
use Rattle.kinds.specs.Meaning.{KindMeaning}
use Rattle.model.specs.declared.entries.Entry.{Entry}
use Rattle.model.specs.Sets.{member}
use Rattle.frames.specs.declared.fault.ReaderFault.{ReaderFault}
use Rattle.frames.specs.declared.fault.ReaderFault.TheVariants.{IllFormed, NotForUs}
use Rattle.frames.specs.Layout.{Heading, edition, heading_in, entry_in}
use Rattle.frames.specs.Reading.{code_counts}
use Rattle.frames.specs.Sorts.{sort_of, well_addressed}

pub record Demand : Type 0 where
  pub holds : Bool
  pub fault : ReaderFault

-- a demand of every frame, and one of the frames for us, on the field at this byte
abbrev pub form : ℕ → Bool → Demand
form byte holds = record { holds = holds; fault = IllFormed byte }

abbrev pub aim : ℕ → Bool → Demand
aim byte holds = record { holds = holds; fault = NotForUs byte }

-- the fault of the first row that does not hold
abbrev pub first_wrong : List Demand → Option ReaderFault
first_wrong [] = None
first_wrong (d ∷ ds) = cond d.holds (first_wrong ds) (Some d.fault)

-- enough bytes for a header; sort, edition and n; the length that n asks for; sender; addressees
abbrev pub header_table : List ℕ → List Demand
header_table bytes =
    form (length bytes) (nat_le 4 (length bytes))
    ∷ form 0 (is_some (sort_of (slice_index bytes 0 / 64)))
    ∷ form 0 (slice_index bytes 0 / 16 % 4 == edition)
    ∷ form 0 (nat_le 2 (heading_in bytes).n && nat_le (heading_in bytes).n 7)
    ∷ form (length bytes) (length bytes == 4 + 12 * (heading_in bytes).n)
    ∷ form 1 (nat_lt (heading_in bytes).sender (heading_in bytes).n)
    ∷ form 2 (well_addressed (heading_in bytes).sort (heading_in bytes).n (heading_in bytes).sender (heading_in bytes).to)
    ∷ []

-- an entry at a place: its vote is within its promise, it has no code without a vote, and where it votes its code counts
abbrev pub entry_table : Bool → Entry → ℕ → List Demand
entry_table counts e place =
    form (place + 3) (int_le e.vote e.promise)
    ∷ form (place + 6) (int_le (pos 0) e.vote || e.code == 0)
    ∷ form (place + 6) (int_lt e.vote (pos 0) || counts)
    ∷ []

module _ {V : Type 0} (m : KindMeaning V) where
  -- entry i of a frame of some kind
  abbrev pub table_at : List ℕ → ℕ → ℕ → List Demand
  table_at bytes kind i = entry_table (code_counts m kind (entry_in bytes i).code) (entry_in bytes i) (4 + 12 * i)

  -- the first so many entries, one after the other
  abbrev pub row_table : List ℕ → ℕ → ℕ → List Demand
  row_table bytes kind n = flat_map (table_at bytes kind) (range_with_len 0 n)

  -- a frame for participant q of a register of n participants and so many cells
  abbrev pub address_table : Heading → ℕ → ℕ → ℕ → List Demand
  address_table h n cells q =
      aim 0 (h.n == n)
      ∷ aim 1 (h.kind == m.number)
      ∷ aim 2 (member h.to q)
      ∷ aim 3 (nat_lt h.cell cells)
      ∷ []

  -- the whole table: header, entries, address
  abbrev pub table : List ℕ → ℕ → ℕ → ℕ → List Demand
  table bytes n cells q = header_table bytes ++ (row_table bytes (heading_in bytes).kind (heading_in bytes).n ++ address_table (heading_in bytes) n cells q)
