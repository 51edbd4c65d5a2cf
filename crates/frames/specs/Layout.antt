-- The bytes of a frame: four of the header, then twelve for each entry, fields packed highest bit first. Assumes nothing.
use Rattle.std.specs.Prelude.{◌≡◌, ℕ, ◌+◌, ◌*◌, ◌/◌, ◌%◌, ◌<◌, ◌≤◌, true, List, [], ◌∷◌, ◌++◌, map, take, drop, slice_index}
use Rattle.std.specs.List.{range_with_len, flat_map}
use Rattle.std.specs.Option.{unwrap_or}
use Rattle.model.specs.declared.entries.Entry.{Entry}
use Rattle.model.specs.Bytes.{written, spelled}
use Rattle.model.specs.Entries.{clean}
use Rattle.frames.specs.declared.header.Header.{Header}
use Rattle.frames.specs.declared.sort.Sort.{Sort}
use Rattle.frames.specs.declared.sort.Sort.TheVariants.{Ack}
use Rattle.frames.specs.Sorts.{sort_number, sort_of, well_addressed}

-- the edition of this layout
abbrev pub edition : ℕ
edition = 1

-- what a header says
pub record Heading : Type 0 where
  pub sort : Sort
  pub n : ℕ
  pub sender : ℕ
  pub kind : ℕ
  pub to : ℕ
  pub cell : ℕ

abbrev pub heading_of : Header → Heading
heading_of h = record { sort = h.sort; n = h.n; sender = h.sender; kind = h.kind; to = h.to; cell = h.cell }

-- what holds of every header
pub record Sound (h : Heading) : Type 0 where
  pub some : 2 ≤ h.n
  pub few : h.n ≤ 7
  pub sent : h.sender < h.n
  pub known : h.kind < 16
  pub named : h.cell < 256
  pub addressed : well_addressed h.sort h.n h.sender h.to ≡ true

-- sort in 2 bits, edition in 2, n in 4; sender in 4, kind in 4; addressees in 8; cell in 8
abbrev pub four_bytes : Heading → List ℕ
four_bytes h = (sort_number h.sort * 64 + edition * 16 + h.n) ∷ (h.sender * 16 + h.kind) ∷ h.to ∷ h.cell ∷ []

-- what is no entry is written as none
abbrev pub entry_bytes : Entry → List ℕ
entry_bytes e = written (clean e)

-- the frame of a header and the entries of a row
unfoldable pub laid_out : Heading → List Entry → List ℕ
laid_out h entries = four_bytes h ++ flat_map entry_bytes entries

-- what the first four bytes say; a sort that does not exist is refused before it counts
abbrev pub heading_in : List ℕ → Heading
heading_in bytes = record {
  sort = unwrap_or (sort_of (slice_index bytes 0 / 64)) Ack;
  n = slice_index bytes 0 % 16;
  sender = slice_index bytes 1 / 16;
  kind = slice_index bytes 1 % 16;
  to = slice_index bytes 2;
  cell = slice_index bytes 3;
}

abbrev pub entry_in : List ℕ → ℕ → Entry
entry_in bytes i = spelled (take 12 (drop (4 + 12 * i) bytes))

-- the first so many entries
abbrev pub entries_in : List ℕ → ℕ → List Entry
entries_in bytes n = map (entry_in bytes) (range_with_len 0 n)
