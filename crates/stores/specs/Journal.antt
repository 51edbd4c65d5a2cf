-- What a journal store means: its saves one after the other, the newest of a place counting. Assumes nothing.
use Rattle.std.specs.Prelude.{ℕ, zero, suc, ◌+◌, ◌*◌, Bool, cond, not, ◌&&◌, List, ◌++◌, length, take, drop, vec_items, ◌==◌, nat_le, nat_lt}
use Rattle.std.specs.Int.Digits.{number_from_digits}
use Rattle.model.specs.Bytes.{big, written, spelled}
use Rattle.model.specs.Entries.{none, clean}
use Rattle.model.specs.declared.entries.Entry.{Entry}
use Rattle.stores.specs.Meaning.{StoreMeaning}
use Rattle.stores.specs.declared.journal.JournalStore.{JournalStore}

-- 1 to 448 places; a journal of any other number has none
abbrev pub journal_size : ℕ → ℕ
journal_size n = cond (nat_le n 448) n 0

-- the fourteen bytes of a save: the place in 16 bits, highest byte first, and the entry's twelve bytes
abbrev pub saved_bytes : ℕ → Entry → List ℕ
saved_bytes k e = big 2 k ++ written e

-- among the first so many saves the newest of a place, and none where there is none
abbrev pub newest : List ℕ → ℕ → ℕ → Entry
newest bytes k zero = none
newest bytes k (suc n) =
    cond (number_from_digits 256 (take 2 (drop (14 * n) bytes)) == k) (clean (spelled (take 12 (drop (14 * n + 2) bytes)))) (newest bytes k n)

abbrev pub journal_bytes : JournalStore → List ℕ
journal_bytes s = vec_items s.bytes

-- the bytes that are used
abbrev pub journal_used : JournalStore → List ℕ
journal_used s = take (14 * s.saves) (journal_bytes s)

-- whether there is such a place, and fourteen more bytes fit
abbrev pub journal_takes : JournalStore → ℕ → Bool
journal_takes s k = nat_lt k s.places && nat_le (14 * s.saves + 14) (length (journal_bytes s))

-- the used bytes after a save of an entry: fourteen more, where the journal takes it
abbrev pub journal_saved : JournalStore → ℕ → Entry → List ℕ
journal_saved s k e = cond (journal_takes s k) (journal_used s ++ saved_bytes k e) (journal_used s)

abbrev pub journal_means : StoreMeaning JournalStore
journal_means = record {
  places = λ s. s.places;
  at = λ s k. cond (nat_lt k s.places) (newest (journal_used s) k s.saves) none;
  fails = λ s k e. not (journal_takes s k);
}
