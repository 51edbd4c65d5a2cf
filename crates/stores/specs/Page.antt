-- What a page store means: each entry as its twelve bytes, one after the other. Assumes nothing.
use Rattle.std.specs.Prelude.{ℕ, ◌*◌, ◌/◌, cond, not, List, length, take, drop, vec_items, nat_lt}
use Rattle.model.specs.Bytes.{written, spelled}
use Rattle.model.specs.Entries.{none, clean}
use Rattle.model.specs.declared.entries.Entry.{Entry}
use Rattle.stores.specs.Meaning.{StoreMeaning}
use Rattle.stores.specs.Parts.{overwritten}
use Rattle.stores.specs.declared.page.PageStore.{PageStore}

-- a place for each whole twelve bytes
abbrev pub page_places : List ℕ → ℕ
page_places bytes = length bytes / 12

-- the entry that stands at a place
abbrev pub page_entry : List ℕ → ℕ → Entry
page_entry bytes k = cond (nat_lt k (page_places bytes)) (clean (spelled (take 12 (drop (12 * k) bytes)))) none

-- the bytes after a save of an entry: its twelve at the place, if there is such a place, and all others as before
abbrev pub page_saved : List ℕ → ℕ → Entry → List ℕ
page_saved bytes k e = cond (nat_lt k (page_places bytes)) (overwritten bytes (12 * k) (written e)) bytes

abbrev pub page_bytes : PageStore → List ℕ
page_bytes s = vec_items s.bytes

abbrev pub page_means : StoreMeaning PageStore
page_means = record {
  places = λ s. page_places (page_bytes s);
  at = λ s k. page_entry (page_bytes s) k;
  fails = λ s k e. not (nat_lt k (page_places (page_bytes s)));
}
