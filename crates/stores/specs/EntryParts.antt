-- The bytes of an entry. Assumes nothing.
use Rattle.std.specs.Prelude.{◌≡◌, true, length, refl}
use Rattle.std.proofs.Common.{ap, ◌∙◌}
use Rattle.model.specs.Bytes.{written, spelled}
use Rattle.model.specs.Entries.{is_entry, clean}
use Rattle.model.specs.declared.entries.Entry.{Entry}
use Rattle.model.proofs.EntryBytes.{spelled_written}
use Rattle.model.proofs.Proper.{clean_same}

pub length-written : (e : Entry) → length (written e) ≡ 12
unfolding written
length-written e = refl

-- an entry's own bytes count as it
pub written_counts : (e : Entry) → is_entry e ≡ true → clean (spelled (written e)) ≡ e
written_counts e ok = ap clean (spelled_written e ok) ∙ clean_same e ok
