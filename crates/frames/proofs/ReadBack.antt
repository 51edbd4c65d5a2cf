-- What is laid out reads back without a fault. Assumes nothing.
use Rattle.std.proofs.Common.{◌≡◌, ℕ, zero, suc, ◌+◌, ◌*◌, ◌/◌, ◌%◌, ◌<◌, Bool, true, false, not, ◌&&◌, ◌||◌, eqb, ltb, leb, List, [], ◌∷◌, ◌++◌, map, length, get_or, take, drop, pos, is_some, Some, None, Ok, Err, Option, Result, unwrap_or, sym, refl, ap, ◌∙◌, arith}
use Rattle.std.specs.Option.{option_or}
use lib.Signed.{lt_z}
use Rattle.std.specs.List.{flat_map, All}
use Rattle.std.proofs.lemmas.List.FromFn.{fill_by_all}
use Rattle.std.proofs.lemmas.List.Elements.{All-head, All-tail}
use Rattle.std.proofs.lemmas.List.{take_at, drop_at, drop-drop, length-map, get_or-map}
use Rattle.std.proofs.lemmas.Bool.{and_from, lt-ltb, le-leb, eq-eqb}
use Rattle.kinds.specs.Meaning.{KindMeaning}
use Rattle.model.specs.declared.entries.Entry.{Entry}
use Rattle.model.specs.declared.rows.Row.{Row}
use Rattle.model.specs.Bytes.{spelled}
use Rattle.model.specs.Entries.{none, is_entry, clean}
use Rattle.model.proofs.EntryBytes.{spelled_written}
use Rattle.model.proofs.Proper.{proper, clean_same, clean_is_entry}
use Rattle.frames.specs.declared.fault.ReaderFault.{ReaderFault}
use Rattle.frames.specs.declared.reader.Frame.{Frame}
use Rattle.frames.specs.declared.sort.Sort.{Sort}
use Rattle.frames.specs.declared.sort.Sort.TheVariants.{Prepare, Accept, Ack}
use Rattle.frames.specs.Layout.{Heading, Sound, heading_in, four_bytes, entry_bytes, laid_out, entry_in, entries_in}
use Rattle.model.specs.Checks.{demand}
use Rattle.frames.specs.Reading.{header_fault, entry_fault, first_of, code_counts, fault_at, address_fault, valued, first_fault, ForUs, Reads, Complete, ReadsBack, Answered}
use Rattle.frames.specs.Sorts.{sort_number, sort_of, well_addressed}
use Rattle.frames.proofs.Layouts.{length-written, length-laid_out}
use Rattle.frames.proofs.Readings.{row_front}

-- the two halves of the first byte
sort_back : (s : Sort) (n : ℕ) → n < 16 → sort_of ((sort_number s * 64 + 16 + n) / 64) ≡ Some s
sort_back Prepare n few = let q : (16 + n) / 64 ≡ 0 = omega arith in rw q
sort_back Accept n few = let q : (80 + n) / 64 ≡ 1 = omega arith in rw q
sort_back Ack n few = let q : (144 + n) / 64 ≡ 2 = omega arith in rw q

pub heading_back : (h : Heading) (es : List Entry) → Sound h → heading_in (laid_out h es) ≡ h
unfolding laid_out
heading_back h es is =
    let few = is.few in
    let known = is.known in
    let s = ap (λ o. unwrap_or o Ack) (sort_back h.sort h.n (omega arith)) in
    let n : (sort_number h.sort * 64 + 16 + h.n) % 16 ≡ h.n = omega arith in
    let p : (h.sender * 16 + h.kind) / 16 ≡ h.sender = omega arith in
    let k : (h.sender * 16 + h.kind) % 16 ≡ h.kind = omega arith in
    λ i. record { sort = s i; n = n i; sender = p i; kind = k i; to = h.to; cell = h.cell }

-- the bytes of entry i among those of all
joined_at : (es : List Entry) (i : ℕ) (d : Entry) → i < length es → take 12 (drop (12 * i) (flat_map entry_bytes es)) ≡ entry_bytes (get_or es i d)
joined_at [] i d in_row = absurd (omega arith)
joined_at (e ∷ es) zero d in_row = take_at (entry_bytes e) (flat_map entry_bytes es) 12 (length-written (clean e))
joined_at (e ∷ es) (suc i) d in_row =
    let on : 12 * suc i ≡ 12 + 12 * i = omega arith in
    ap (λ k. take 12 (drop k (entry_bytes e ++ flat_map entry_bytes es))) on ∙ ap (take 12) (sym (drop-drop (12 * i) 12 (entry_bytes e ++ flat_map entry_bytes es)) ∙ ap (drop (12 * i)) (drop_at (entry_bytes e) (flat_map entry_bytes es) 12 (length-written (clean e)))) ∙ joined_at es i d (omega arith)

pub entry_back : (h : Heading) (es : List Entry) (i : ℕ) → i < length es → entry_in (laid_out h es) i ≡ clean (get_or es i none)
unfolding laid_out
entry_back h es i in_row =
    let e = get_or es i none in
    ap (λ l. spelled (take 12 l)) (sym (drop-drop (12 * i) 4 (four_bytes h ++ flat_map entry_bytes es))) ∙ ap spelled (joined_at es i none in_row) ∙ spelled_written (clean e) (clean_is_entry e)

pub entries_back : (h : Heading) (es : List Entry) (n : ℕ) → length es ≡ n → entries_in (laid_out h es) n ≡ map clean es
entries_back h es n long = sym (fill_by_all (entry_in (laid_out h es)) (map clean es) n none (length-map es clean ∙ long) (λ k lt. let in_row : k < length es = omega arith in get_or-map clean es k none none in_row ∙ sym (entry_back h es k in_row)))

-- entries count as themselves
pub clean_all : (es : List Entry) → All (λ e. is_entry e ≡ true) es → map clean es ≡ es
clean_all [] ok = refl
clean_all (e ∷ es) ok = λ i. clean_same e (All-head (λ e. is_entry e ≡ true) e es ok) i ∷ clean_all es (All-tail (λ e. is_entry e ≡ true) e es ok) i

-- a check that passes leaves those after it
clear : {E : Type 0} {t : Bool} {later : Option E} (fault : E) → t ≡ true → later ≡ None → option_or (demand t fault) later ≡ None
clear fault p q = λ i. option_or (demand (p i) fault) (q i)

last : {E : Type 0} {t : Bool} (fault : E) → t ≡ true → demand t fault ≡ None
last fault p = ap (λ t. demand t fault) p

header_clear : (h : Heading) (es : List Entry) → Sound h → length es ≡ h.n → header_fault (laid_out h es) ≡ None
unfolding laid_out
header_clear h es is long =
    let some = is.some in
    let few = is.few in
    let whole = length-laid_out h es ∙ ap (λ k. 4 + 12 * k) long in
    let back = heading_back h es is in
    let edited : (sort_number h.sort * 64 + 16 + h.n) / 16 % 4 ≡ 1 = omega arith in
    clear _ (le-leb 4 _ (omega (arith, whole)))
    (clear _ (ap is_some (sort_back h.sort h.n (omega arith)))
    (clear _ (eq-eqb _ _ edited)
    (clear _ (ap (λ (g : Heading). leb 2 g.n && leb g.n 7) back ∙ and_from _ _ (le-leb 2 h.n some) (le-leb h.n 7 few))
    (clear _ (ap (λ (g : Heading). eqb (length (laid_out h es)) (4 + 12 * g.n)) back ∙ eq-eqb _ _ whole)
    (clear _ (ap (λ (g : Heading). ltb g.sender g.n) back ∙ lt-ltb _ _ is.sent)
    (last _ (ap (λ (g : Heading). well_addressed g.sort g.n g.sender g.to) back ∙ is.addressed)))))))

wider : (a b c : Bool) → (a || b) ≡ true → (a || (c || b)) ≡ true
wider true b c is = refl
wider false b true is = refl
wider false b false is = is

first_of_clear : (check : ℕ → Option ReaderFault) (n : ℕ) → ((i : ℕ) → i < n → check i ≡ None) → first_of check n ≡ None
first_of_clear check zero each = refl
first_of_clear check (suc k) each = let front = first_of_clear check k (λ i lt. each i (omega arith)) in λ i. option_or (front i) (each k (omega arith) i)

entry_clear : (counts : Bool) (e : Entry) (place : ℕ) → is_entry e ≡ true → (lt_z e.vote (pos 0) || counts) ≡ true → entry_fault counts e place ≡ None
entry_clear counts e place ok counted = let is = proper e ok in clear _ is.within (clear _ is.coded (last _ counted))

module _ {V : Type 0} (m : KindMeaning V) where
  counted : (kind : ℕ) (e : Entry) → valued m e ≡ true → (lt_z e.vote (pos 0) || code_counts m kind e.code) ≡ true
  counted kind e is = wider (lt_z e.vote (pos 0)) (is_some (m.value e.code)) (not (eqb kind m.number)) is

  address_clear : (h : Heading) (n cells q : ℕ) → ForUs m h n cells q → address_fault m h n cells q ≡ None
  address_clear h n cells q us = clear _ (eq-eqb _ _ us.same_n) (clear _ (eq-eqb _ _ us.same_kind) (clear _ us.addressed (last _ (lt-ltb _ _ us.within))))

  pub faultless : (h : Heading) (es : List Entry) (n cells q : ℕ) → Sound h → ForUs m h n cells q → Complete m n es → first_fault m (laid_out h es) n cells q ≡ None
  unfolding first_fault
  faultless h es n cells q is us all =
      let bytes = laid_out h es in
      let long : length es ≡ h.n = all.long ∙ sym us.same_n in
      let at : (i : ℕ) → i < h.n → fault_at m bytes h.kind i ≡ None = λ i lt.
      let in_row : i < length es = omega arith in
      let e = get_or es i none in
      ap (λ (e : Entry). entry_fault (code_counts m h.kind e.code) e (4 + 12 * i)) (entry_back h es i in_row) ∙ entry_clear _ (clean e) (4 + 12 * i) (clean_is_entry e) (counted h.kind (clean e) (all.counts i none in_row)) in
      let rows = first_of_clear (fault_at m bytes h.kind) h.n at in
      let back = heading_back h es is in
      (λ i. option_or (header_clear h es is long i) (option_or (first_of (fault_at m bytes (back i).kind) (back i).n) (address_fault m (back i) n cells q))) ∙ (λ i. option_or (rows i) (address_clear h n cells q us i))

  -- so reading answers with the same header and the same entries
  reads_back : (bytes : List ℕ) (n cells q : ℕ) (r : Result Frame ReaderFault) → Reads m bytes n cells q r → ReadsBack m bytes n cells q r
  reads_back bytes n cells q (Err fault) is h es sound us all same =
      let never : Some fault ≡ None = sym is ∙ ap (λ b. first_fault m b n cells q) same ∙ faultless h es n cells q sound us all in
      grind arith
  reads_back bytes n cells q (Ok frame) is h es sound us all same = (
    is.heading ∙ ap heading_in same ∙ heading_back h es sound,
    ap (λ (r : Row). take n r.entries) is.row ∙ row_front bytes n ∙ ap (λ b. entries_in b n) same ∙ entries_back h es n all.long,
  )

  pub answered : (bytes : List ℕ) (n cells q : ℕ) (r : Result Frame ReaderFault) → Reads m bytes n cells q r → Answered m bytes n cells q r
  answered bytes n cells q r is = record { reads = is; back = reads_back bytes n cells q r is }
