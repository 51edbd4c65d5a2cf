-- A journal after one more save. Assumes nothing.
use Rattle.std.proofs.Common.{◌≡◌, Ok, ℕ, ◌+◌, ◌*◌, true, cond, ltb, ◌++◌, length, take, ap, ◌∙◌, arith}
use Rattle.std.proofs.lemmas.List.{length-take-le}
use Rattle.std.proofs.lemmas.Bool.{and_parts, ltb-true, leb-true, cond-true, not_from_true}
use Rattle.model.specs.Entries.{none, is_entry}
use Rattle.model.specs.declared.entries.Entry.{Entry}
use Rattle.stores.specs.declared.journal.JournalStore.{JournalStore}
use Rattle.stores.specs.Meaning.{Saves}
use Rattle.stores.specs.Journal.{newest, saved_bytes, journal_bytes, journal_used, journal_takes, journal_means}
use Rattle.stores.specs.Parts.{overwritten}
use Rattle.stores.specs.EntryParts.{length-written}
use Rattle.stores.specs.Saves.{newest_here, newest_elsewhere, used_more}

-- an entry whose fourteen bytes were written behind the used ones is saved
pub save_written : (s t : JournalStore) (k : ℕ) (e : Entry) → journal_takes s k ≡ true → is_entry e ≡ true → t.places ≡ s.places → t.saves ≡ s.saves + 1 → journal_bytes t ≡ overwritten (journal_bytes s) (14 * s.saves) (saved_bytes k e) → Saves journal_means s k e (Ok tt) t
save_written s t k e takes ok places saves bytes =
    let us = journal_used s in
    let n = s.saves in
    let both = and_parts _ _ takes in
    let place = ltb-true k s.places both.0 in
    let room = leb-true (14 * n + 14) _ both.1 in
    let small = s.few in
    let long : length us ≡ 14 * n = length-take-le (14 * n) (journal_bytes s) (omega arith) in
    let used : journal_used t ≡ us ++ saved_bytes k e = (λ i. take (14 * saves i) (bytes i)) ∙ used_more (journal_bytes s) (saved_bytes k e) n (omega (arith, length-written e)) room in
    let holds : (j : ℕ) → journal_means.at t j ≡ cond (ltb j s.places) (newest (us ++ saved_bytes k e) j (n + 1)) none = λ j i. cond (ltb j (places i)) (newest (used i) j (saves i)) none in (
      not_from_true _ takes,
      holds k ∙ cond-true _ _ _ both.0 ∙ newest_here us k n e long (omega arith) ok,
      record {
        places = places;
        others = λ j apart. holds j ∙ ap (λ x. cond (ltb j s.places) x none) (newest_elsewhere us k n e long (omega arith) ok j apart);
      },
    )
