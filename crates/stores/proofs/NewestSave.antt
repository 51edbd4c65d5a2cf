-- The newest save of a place is the first that is found from the back. Assumes nothing.
use Rattle.std.proofs.Common.{◌≡◌, Some, ℕ, zero, suc, ◌+◌, ◌-◌, ◌*◌, ◌/◌, ◌<◌, ◌≤◌, Bool, eqb, List, [], ◌∷◌, length, get_or, take, drop, reverse, sym, refl, ap, ◌∙◌, arith}
use Rattle.std.specs.List.{find}
use Rattle.std.specs.Option.{option_map_or}
use Rattle.std.proofs.Math.Seq.{take-suc}
use Rattle.std.proofs.lemmas.List.{take_all, take-take, drop-take, drop-drop, reverse-append}
use Rattle.std.proofs.lemmas.Bool.{cond_both, eqb-true, eqb-false}
use Rattle.std.specs.Int.Digits.{number_from_digits}
use Rattle.model.specs.Bytes.{spelled}
use Rattle.model.specs.Entries.{none, clean}
use Rattle.model.specs.declared.entries.Entry.{Entry}
use Rattle.stores.specs.Journal.{newest}
use Rattle.stores.specs.Saves.{newest_found, newest_passed}

abbrev pub of_place : ℕ → List ℕ → Bool
of_place k save = eqb (number_from_digits 256 (take 2 save)) k

abbrev pub entry_of : List ℕ → Entry
entry_of save = clean (spelled (take 12 (drop 2 save)))

module _ (bs : List ℕ) (saves : List (List ℕ)) (each : (i : ℕ) (d : List ℕ) → i < length bs / 14 → get_or saves i d ≡ take 14 (drop (14 * i) bs)) (k : ℕ) where
  abbrev answer : List (List ℕ) → Entry
  answer l = option_map_or entry_of (find (of_place k) l) none

  found : (n : ℕ) → n ≤ length bs / 14 → n ≤ length saves → answer (reverse (take n saves)) ≡ newest bs k n
  found zero h m = refl
  found (suc n) h m =
      let x = get_or saves n [] in
      let older = reverse (take n saves) in
      let back : reverse (take (suc n) saves) ≡ x ∷ older = ap reverse (take-suc saves n [] (omega arith)) ∙ reverse-append (take n saves) (x ∷ []) in
      let last : n ≡ suc n - 1 = omega arith in
      let is : x ≡ take 14 (drop (14 * (suc n - 1)) bs) = each n [] (omega arith) ∙ ap (λ m. take 14 (drop (14 * m) bs)) last in
      let from = 14 * (suc n - 1) in
      let place : take 2 x ≡ take 2 (drop from bs) = ap (take 2) is ∙ take-take 2 14 (drop from bs) (omega arith) in
      let entry : take 12 (drop 2 x) ≡ take 12 (drop (from + 2) bs) = ap (λ l. take 12 (drop 2 l)) is ∙ ap (take 12) (drop-take 2 12 (drop from bs)) ∙ take-take 12 12 _ (omega arith) ∙ ap (take 12) (drop-drop 2 from bs) in
      let there = ap (number_from_digits 256) place in
      let here = newest_found bs k (suc n) (omega arith) _ (entry_of x) there in
      let passed = newest_passed bs k (suc n) (omega arith) _ there in
      ap answer back
      ∙ cond_both (of_place k x) (Some x) (find (of_place k) older) (λ o. option_map_or entry_of o none ≡ newest bs k (suc n))
      (λ e. here (eqb-true _ _ e) (ap (λ l. clean (spelled l)) entry))
      (λ e. found n (omega arith) (omega arith) ∙ ap (newest bs k) last ∙ sym (passed (eqb-false _ _ e)))

  pub found_from_back : length saves ≡ length bs / 14 → answer (reverse saves) ≡ newest bs k (length bs / 14)
  found_from_back m = ap (λ l. answer (reverse l)) (sym (take_all (length bs / 14) saves (omega arith))) ∙ found (length bs / 14) (omega arith) (omega arith)
