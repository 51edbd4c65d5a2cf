-- The entries of a page after a save, and of an empty page. Assumes nothing.
use Rattle.std.proofs.Common.{◌≡◌, ℕ, Ok, ◌+◌, ◌-◌, ◌*◌, ◌/◌, ◌<◌, ◌≤◌, true, cond, ltb, List, length, take, drop, replicate, sym, refl, ap, ◌∙◌, ⊎_elim, arith}
use lib.ListN.{length-replicate}
use Rattle.std.proofs.lemmas.List.{drop-replicate, take-replicate}
use Rattle.std.proofs.lemmas.Bool.{lt-ltb, ltb-true, cases_lt, cond_both, not_from_true}
use Rattle.model.specs.Bytes.{written, spelled}
use Rattle.model.specs.Entries.{none, is_entry, clean}
use Rattle.model.specs.declared.entries.Entry.{Entry}
use Rattle.stores.specs.declared.page.PageStore.{PageStore}
use Rattle.stores.specs.Meaning.{Saves}
use Rattle.stores.specs.Page.{page_bytes, page_entry, page_means}
use Rattle.stores.specs.Parts.{overwritten}
use Rattle.stores.specs.EntryParts.{length-written, written_counts}
use Rattle.stores.proofs.Overwriting.{length-overwritten, part_there, part_before, part_after}

module _ (bs : List ℕ) (k : ℕ) (e : Entry) (there : k < length bs / 12) where
  abbrev after : List ℕ
  after = overwritten bs (12 * k) (written e)

  fits : 12 * k + length (written e) ≤ length bs
  fits = omega (arith, length-written e)

  as_long : length after ≡ length bs
  as_long = length-overwritten bs (written e) (12 * k) fits

  saved_here : is_entry e ≡ true → page_entry after k ≡ e
  saved_here ok =
      let here : take 12 (drop (12 * k) after) ≡ written e = ap (λ n. take n (drop (12 * k) after)) (sym (length-written e)) ∙ part_there bs (written e) (12 * k) fits in
      let inside : ltb k (length after / 12) ≡ true = ap (λ n. ltb k (n / 12)) as_long ∙ lt-ltb k (length bs / 12) there in
      (λ i. cond (inside i) (clean (spelled (here i))) none) ∙ written_counts e ok

  saved_elsewhere : (j : ℕ) → (j ≡ k → ⊥) → page_entry after j ≡ page_entry bs j
  saved_elsewhere j apart =
      let same : take 12 (drop (12 * j) after) ≡ take 12 (drop (12 * j) bs) = ⊎_elim (λ h. part_before bs (written e) (12 * k) fits (12 * j) 12 (omega arith)) (λ h. part_after bs (written e) (12 * k) fits (12 * j) 12 (omega (arith, length-written e))) (cases_lt j k) in
      λ i. cond (ltb j (as_long i / 12)) (clean (spelled (same i))) none

-- an entry that was written over the bytes of its place is saved
pub page_written : (s t : PageStore) (k : ℕ) (e : Entry) → k < length (page_bytes s) / 12 → is_entry e ≡ true → page_bytes t ≡ overwritten (page_bytes s) (12 * k) (written e) → Saves page_means s k e (Ok tt) t
page_written s t k e there ok is =
    let bs = page_bytes s in (
      not_from_true _ (lt-ltb _ _ there),
      ap (λ l. page_entry l k) is ∙ saved_here bs k e there ok,
      record {
        places = ap (λ l. length l / 12) is ∙ ap (λ n. n / 12) (as_long bs k e there);
        others = λ j apart. ap (λ l. page_entry l j) is ∙ saved_elsewhere bs k e there j apart;
      },
    )

abbrev zeros : ℕ → List ℕ
zeros n = replicate n 0

zeros_none : clean (spelled (zeros 12)) ≡ none
unfolding spelled
zeros_none = refl

empty_none : (n k : ℕ) → page_entry (zeros n) k ≡ none
empty_none n k = cond_both (ltb k (length (zeros n) / 12)) _ _ (λ e. e ≡ none) cut (λ _. refl)
  where
    cut : ltb k (length (zeros n) / 12) ≡ true → clean (spelled (take 12 (drop (12 * k) (zeros n)))) ≡ none
    cut there =
        let room = ltb-true k (length (zeros n) / 12) there in
        let twelve : take 12 (drop (12 * k) (zeros n)) ≡ zeros 12 = ap (take 12) (drop-replicate (12 * k) n 0) ∙ take-replicate 12 (n - 12 * k) 0 (omega (arith, length-replicate {A = ℕ} n 0)) in
        ap (λ l. clean (spelled l)) twelve ∙ zeros_none

pub empty_page : (bs : List ℕ) (n k : ℕ) → bs ≡ zeros n → page_entry bs k ≡ none
empty_page bs n k empty = ap (λ l. page_entry l k) empty ∙ empty_none n k
