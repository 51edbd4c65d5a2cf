-- The newest save of a place in a journal, and what one more save makes of it. Assumes nothing.
use Rattle.std.specs.Prelude.{◌≡◌, ℕ, zero, suc, ◌+◌, ◌-◌, ◌*◌, ◌^◌, ◌<◌, ◌≤◌, true, cond, List, ◌++◌, length, take, drop, ◌==◌, ◌≢◌, refl}
use Rattle.std.proofs.Common.{sym, ap, ◌∙◌, append_assoc, arith, length-append, length-drop}
use Rattle.std.proofs.lemmas.List.{length-take-le, take_at, drop_at, take_all, take-append-le, drop-append-le, drop-drop}
use Rattle.std.proofs.lemmas.Bool.{cond-true, cond-false, cond_both, eq-eqb, ne_eqb}
use Rattle.std.specs.Int.Digits.{number_from_digits}
use Rattle.model.specs.Bytes.{written, spelled}
use Rattle.model.specs.Entries.{is_entry, clean}
use Rattle.model.specs.declared.entries.Entry.{Entry}
use Rattle.model.proofs.Numbers.{number_big}
use Rattle.model.proofs.Proper.{clean_is_entry}
use Rattle.stores.specs.Journal.{newest, saved_bytes}
use Rattle.stores.specs.Parts.{overwritten}
use Rattle.stores.specs.EntryParts.{length-written, written_counts}

-- the place and the entry of the save that begins at a byte
abbrev place_there : List ℕ → ℕ → ℕ
place_there bs from = number_from_digits 256 (take 2 (drop from bs))

abbrev entry_there : List ℕ → ℕ → Entry
entry_there bs from = clean (spelled (take 12 (drop (from + 2) bs)))

module _ (bs : List ℕ) (k i : ℕ) (some : 0 < i) where
  last : newest bs k i ≡ newest bs k (suc (i - 1))
  last = ap (newest bs k) {y = suc (i - 1)} (omega arith)

  pub newest_found : (p : ℕ) (e : Entry) → p ≡ place_there bs (14 * (i - 1)) → p ≡ k → e ≡ entry_there bs (14 * (i - 1)) → e ≡ newest bs k i
  newest_found p e at same is = is ∙ sym (last ∙ cond-true _ _ _ (eq-eqb _ _ (sym at ∙ same)))

  pub newest_passed : (p : ℕ) → p ≡ place_there bs (14 * (i - 1)) → (p ≢ k) → newest bs k i ≡ newest bs k (i - 1)
  newest_passed p at other = last ∙ cond-false _ _ _ (ne_eqb _ _ (λ same. other (at ∙ same)))

pub newest_entry : (bs : List ℕ) (k n : ℕ) → is_entry (newest bs k n) ≡ true
newest_entry bs k zero = refl
newest_entry bs k (suc n) =
    cond_both (place_there bs (14 * n) == k) (entry_there bs (14 * n)) (newest bs k n) (λ e. is_entry e ≡ true) (λ _. clean_is_entry (spelled (take 12 (drop (14 * n + 2) bs)))) (λ _. newest_entry bs k n)

-- what lies in the front of some bytes stands when more are added
cut_append : (us rs : List ℕ) (a n : ℕ) → a + n ≤ length us → take n (drop a (us ++ rs)) ≡ take n (drop a us)
cut_append us rs a n h = ap (take n) (drop-append-le a us rs (omega arith)) ∙ take-append-le n (drop a us) rs (omega (arith, length-drop a us))

older_stand : (us rs : List ℕ) (k n : ℕ) → 14 * n ≤ length us → newest (us ++ rs) k n ≡ newest us k n
older_stand us rs k zero h = refl
older_stand us rs k (suc n) h =
    let place = cut_append us rs (14 * n) 2 (omega arith) in
    let entry = cut_append us rs (14 * n + 2) 12 (omega arith) in
    let older = older_stand us rs k n (omega arith) in
    λ i. cond (number_from_digits 256 (place i) == k) (clean (spelled (entry i))) (older i)

-- one more save: it is the newest of its place, and at the other places nothing changes
module _ (us : List ℕ) (k n : ℕ) (e : Entry) (long : length us ≡ 14 * n) (small : k < 2 ^ 16) (ok : is_entry e ≡ true) where
  saved : (j : ℕ) → newest (us ++ saved_bytes k e) j (n + 1) ≡ cond (k == j) e (newest us j n)
  saved j =
      let all = us ++ saved_bytes k e in
      let rest = drop_at us (saved_bytes k e) (14 * n) long in
      let place : place_there all (14 * n) ≡ k = ap (λ l. number_from_digits 256 (take 2 l)) rest ∙ number_big 2 k (omega arith) in
      let bytes : take 12 (drop (14 * n + 2) all) ≡ written e = ap (take 12) (sym (drop-drop 2 (14 * n) all) ∙ ap (drop 2) rest) ∙ take_all 12 (written e) (omega (arith, length-written e)) in
      let entry = ap (λ l. clean (spelled l)) bytes ∙ written_counts e ok in
      let older = older_stand us (saved_bytes k e) j n (omega arith) in
      ap (newest all j) {y = suc n} (omega arith) ∙ (λ i. cond (place i == j) (entry i) (older i))

  pub newest_here : newest (us ++ saved_bytes k e) k (n + 1) ≡ e
  newest_here = saved k ∙ cond-true _ _ _ (eq-eqb k k refl)

  pub newest_elsewhere : (j : ℕ) → (j ≢ k) → newest (us ++ saved_bytes k e) j (n + 1) ≡ newest us j n
  newest_elsewhere j apart = saved j ∙ cond-false _ _ _ (ne_eqb k j (λ same. apart (sym same)))

-- the used bytes after fourteen more
pub used_more : (bs w : List ℕ) (n : ℕ) → length w ≡ 14 → 14 * n + 14 ≤ length bs → take (14 * (n + 1)) (overwritten bs (14 * n) w) ≡ take (14 * n) bs ++ w
used_more bs w n long fits =
    let front = take (14 * n) bs in
    let rest = drop (14 * n + length w) bs in
    ap (take (14 * (n + 1))) (sym (append_assoc front w rest)) ∙ take_at (front ++ w) rest (14 * (n + 1)) (omega (arith, length-append front w, length-take-le (14 * n) bs (omega arith)))
