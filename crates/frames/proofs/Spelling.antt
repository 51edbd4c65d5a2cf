-- What bytes without a fault spell, and that only they spell it. Assumes nothing.
use Rattle.std.proofs.Common.{◌≡◌, ℕ, zero, suc, ◌+◌, ◌-◌, ◌*◌, ◌/◌, ◌%◌, ◌^◌, ◌<◌, ◌≤◌, Bool, true, ◌||◌, List, [], ◌∷◌, ◌++◌, length, take, drop, replicate, pos, negsuc, is_some, None, Ok, unwrap_or, sym, refl, ap, ◌∙◌, subst, add-one, zero-add, arith, length-drop, take-add}
use Rattle.std.specs.Option.{option_or}
use lib.Signed.{le_z, lt_z}
use Rattle.std.specs.Int.Digits.{number_from_digits}
use Rattle.std.specs.List.{range_with_len, flat_map, All}
use Rattle.std.proofs.lemmas.Nat.{div-add-mod'}
use Rattle.std.proofs.lemmas.List.FromFn.{length-range_with_len, get_or-range_with_len, map-range_with_len_more}
use Rattle.std.proofs.lemmas.Int.Digits.{number_lt}
use Rattle.std.proofs.lemmas.List.Elements.{All-take, All-drop, All-append, All-map, All-replicate, recursion_from_All}
use Rattle.std.proofs.lemmas.List.{length-take-le, flat_map_more, drop-drop, take-append-drop, take_all}
use Rattle.std.proofs.lemmas.Bool.{and_from, lt-ltb, le-leb, eqb-true, eq-eqb}
use Rattle.std.proofs.lemmas.Bool.Decides.{nat_tests}
use Rattle.kinds.specs.Meaning.{KindMeaning}
use Rattle.model.specs.declared.entries.Entry.{Entry}
use Rattle.model.specs.Bytes.{lowered, written, spelled}
use Rattle.model.specs.Entries.{none, is_entry}
use Rattle.model.specs.declared.rows.Row.{Row}
use Rattle.model.proofs.EntryBytes.{written_spelled}
use Rattle.model.proofs.Proper.{clean_same}
use Rattle.frames.specs.declared.header.Header.{Header}
use Rattle.frames.specs.declared.sort.Sort.TheVariants.{Ack}
use Rattle.frames.specs.Layout.{edition, heading_of, heading_in, four_bytes, entry_bytes, laid_out, entry_in, entries_in}
use Rattle.model.specs.Checks.{unless}
use Rattle.frames.specs.Reading.{header_fault, HeaderRead, entry_fault, first_of, row_in, code_counts, fault_at, address_fault, valued, first_fault, Spells}
use Rattle.frames.specs.Sorts.{sort_number, sort_of}
use Rattle.frames.proofs.Readings.{passes, right_entry, right_address, first_of_at, unless_ok, row_front}

below : (k : ℕ) (bs : List ℕ) → length bs ≡ k → All (λ d. d < 256) bs → number_from_digits 256 bs < 256 ^ k
below k bs long small = subst (λ j. number_from_digits 256 bs < 256 ^ j) long (number_lt 256 bs (recursion_from_All _ bs small))

-- a field of three bytes holds a ballot or none
from_none : (k : ℕ) → le_z (negsuc 0) (lowered k) ≡ true
from_none zero = refl
from_none (suc b) = refl

to_top : (k : ℕ) → k < 256 ^ 3 → le_z (lowered k) (pos 16777214) ≡ true
to_top zero fits = refl
to_top (suc b) fits = le-leb b 16777214 (omega arith)

-- twelve bytes without a fault spell an entry
spelled_proper : (bs : List ℕ) (counts : Bool) (place : ℕ) → length bs ≡ 12 → All (λ d. d < 256) bs → entry_fault counts (spelled bs) place ≡ None → is_entry (spelled bs) ≡ true
unfolding spelled
spelled_proper bs counts place long small right =
    let Small = λ (d : ℕ). d < 256 in
    let p = below 3 (take 3 bs) (length-take-le 3 bs (omega arith)) (All-take Small 3 bs small) in
    let c = below 6 (take 6 (drop 6 bs)) (length-take-le 6 (drop 6 bs) (omega (arith, length-drop 6 bs))) (All-take Small 6 (drop 6 bs) (All-drop Small 6 bs small)) in
    let is = right_entry counts (spelled bs) place right in
    and_from _ _ (and_from _ _ (and_from _ _ (and_from _ _ (from_none (number_from_digits 256 (take 3 (drop 3 bs)))) is.within) (to_top (number_from_digits 256 (take 3 bs)) p)) (lt-ltb _ _ c)) is.coded

-- the sort of a number that has one
number_of_sort : (k : ℕ) → is_some (sort_of k) ≡ true → sort_number (unwrap_or (sort_of k) Ack) ≡ k
number_of_sort k is = grind (arith, nat_tests)

first_byte : (a s : ℕ) → s ≡ a / 64 → a / 16 % 4 ≡ edition → s * 64 + edition * 16 + a % 16 ≡ a
first_byte a s sort edited = omega arith

four_spelled : (bytes : List ℕ) → header_fault bytes ≡ None → four_bytes (heading_in bytes) ≡ take 4 bytes
four_spelled [] clear = cc
four_spelled (a ∷ []) clear = cc
four_spelled (a ∷ b ∷ []) clear = cc
four_spelled (a ∷ b ∷ c ∷ []) clear = cc
four_spelled (a ∷ b ∷ c ∷ d ∷ rest) clear =
    let sorted = passes _ _ _ (passes _ _ _ clear).1 in
    let edited = passes _ _ _ sorted.1 in
    let first = first_byte a _ (number_of_sort (a / 64) sorted.0) (eqb-true _ _ edited.0) in
    λ i. first i ∷ div-add-mod' b 16 i ∷ c ∷ d ∷ []

module _ (bytes : List ℕ) (n : ℕ) (long : length bytes ≡ 4 + 12 * n) (small : All (λ d. d < 256) bytes) where
  -- the twelve bytes of an entry
  part_long : (i : ℕ) → i < n → length (take 12 (drop (4 + 12 * i) bytes)) ≡ 12
  part_long i in_row = length-take-le 12 (drop (4 + 12 * i) bytes) (omega (arith, length-drop (4 + 12 * i) bytes))

  part_small : (i : ℕ) → All (λ d. d < 256) (take 12 (drop (4 + 12 * i) bytes))
  part_small i = All-take (λ d. d < 256) 12 (drop (4 + 12 * i) bytes) (All-drop (λ d. d < 256) (4 + 12 * i) bytes small)

  -- so many proper entries are written as they were read
  entries_spelled : ((i : ℕ) → i < n → is_entry (entry_in bytes i) ≡ true) → (k : ℕ) → k ≤ n → flat_map entry_bytes (entries_in bytes k) ≡ take (12 * k) (drop 4 bytes)
  entries_spelled proper zero few = refl
  entries_spelled proper (suc k) few =
      let e = entry_in bytes k in
      let more : entries_in bytes (suc k) ≡ entries_in bytes k ++ e ∷ [] = ap (entries_in bytes) (sym (add-one k)) ∙ map-range_with_len_more (entry_in bytes) 0 k k (omega arith) in
      let last : entry_bytes e ≡ take 12 (drop (12 * k) (drop 4 bytes)) = ap written (clean_same e (proper k (omega arith))) ∙ written_spelled _ (part_long k (omega arith)) (recursion_from_All _ _ (part_small k)) ∙ ap (take 12) (sym (drop-drop (12 * k) 4 bytes)) in
      let next : 12 * k + 12 ≡ 12 * suc k = omega arith in
      ap (flat_map entry_bytes) more ∙ sym (flat_map_more entry_bytes [] (entries_in bytes k) e) ∙ (λ i. entries_spelled proper k (omega arith) i ++ last i) ∙ sym (take-add (12 * k) 12 (drop 4 bytes)) ∙ ap (λ j. take j (drop 4 bytes)) next

  -- the frame that the bytes spell is laid out as those bytes
  laid_out_spelled : header_fault bytes ≡ None → ((i : ℕ) → i < n → is_entry (entry_in bytes i) ≡ true) → laid_out (heading_in bytes) (entries_in bytes n) ≡ bytes
  unfolding laid_out
  laid_out_spelled right proper =
      let rest : flat_map entry_bytes (entries_in bytes n) ≡ drop 4 bytes = entries_spelled proper n (omega arith) ∙ take_all (12 * n) (drop 4 bytes) (omega (arith, length-drop 4 bytes)) in
      (λ i. four_spelled bytes right i ++ rest i) ∙ take-append-drop 4 bytes

-- what holds of each entry read and of none holds of the whole row
all_row : (P : Entry → Type 0) (bytes : List ℕ) (n : ℕ) → P none → ((i : ℕ) → i < n → P (entry_in bytes i)) → All P (row_in bytes n).entries
all_row P bytes n idle each =
    All-append P (entries_in bytes n) (replicate (7 - n) none)
    (All-map P (entry_in bytes) (range_with_len 0 n) (λ k d lt. let in_row : k < n = omega (arith, length-range_with_len 0 n) in subst (λ i. P (entry_in bytes i)) (sym (get_or-range_with_len 0 n k d in_row ∙ zero-add k)) (each k in_row)))
    (All-replicate P (7 - n) none idle)

module _ {V : Type 0} (m : KindMeaning V) where
  counts_ours : (kind : ℕ) (e : Entry) → kind ≡ m.number → (lt_z e.vote (pos 0) || code_counts m kind e.code) ≡ true → valued m e ≡ true
  counts_ours kind e ours is = simp (eq-eqb kind m.number ours) at is

  -- what reading gives where every part reads without a fault
  pub spells : (bytes : List ℕ) (n cells q : ℕ) (header : Header) (row : Row) → All (λ d. d < 256) bytes → HeaderRead bytes (Ok header) → Ok row ≡ unless (first_of (fault_at m bytes header.kind) header.n) (row_in bytes header.n) → Ok (tt {0}) ≡ unless (address_fault m (heading_of header) n cells q) (tt {0}) → Spells m bytes n cells q (record { header = header; row = row })
  unfolding first_fault
  spells bytes n cells q header row small head body us =
      let heading = head.1 in
      let clear = (unless_ok _ _ _ body).0 in
      let address = (unless_ok _ _ _ us).0 in
      let ours = right_address m (heading_of header) n cells q address in
      let same = ours.same_n in
      let is : row ≡ row_in bytes n = (unless_ok _ _ _ body).1 ∙ ap (row_in bytes) same in
      let long : length bytes ≡ 4 + 12 * n = head.2 ∙ ap (λ k. 4 + 12 * k) same in
      let at : (i : ℕ) → i < n → fault_at m bytes header.kind i ≡ None = λ i lt. first_of_at (fault_at m bytes header.kind) n (subst (λ k. first_of (fault_at m bytes header.kind) k ≡ None) same clear) i lt in
      let proper : (i : ℕ) → i < n → is_entry (entry_in bytes i) ≡ true = λ i lt. spelled_proper _ _ _ (part_long bytes n long small i lt) (part_small bytes n long small i) (at i lt) in
      let counts : (i : ℕ) → i < n → valued m (entry_in bytes i) ≡ true = λ i lt. counts_ours header.kind (entry_in bytes i) ours.same_kind (right_entry _ (entry_in bytes i) _ (at i lt)).counted in
      let front : take n row.entries ≡ entries_in bytes n = ap (λ (r : Row). take n r.entries) is ∙ row_front bytes n in
      let rest : first_fault m bytes n cells q ≡ option_or (first_of (fault_at m bytes header.kind) header.n) (address_fault m (heading_of header) n cells q) = (λ i. option_or (head.0 i) (option_or (first_of (fault_at m bytes (sym heading i).kind) (sym heading i).n) (address_fault m (sym heading i) n cells q))) in
      record {
        faultless = rest ∙ ap (λ o. option_or o (address_fault m (heading_of header) n cells q)) clear ∙ address;
        heading = heading;
        row = is;
        only_so = sym ((λ i. laid_out (heading i) (front i)) ∙ laid_out_spelled bytes n long small head.0 proper);
        proper = subst (λ (r : Row). All (λ e. is_entry e ≡ true) r.entries) (sym is) (all_row (λ e. is_entry e ≡ true) bytes n refl proper);
        counts = subst (λ (r : Row). All (λ e. valued m e ≡ true) r.entries) (sym is) (all_row (λ e. valued m e ≡ true) bytes n refl counts);
        for_us = ours;
      }
