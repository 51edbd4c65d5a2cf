-- Entry by entry: the first fault, and the row so far. Assumes nothing.
use Rattle.std.proofs.Common.{◌≡◌, ℕ, zero, suc, ◌+◌, ◌-◌, ◌<◌, Bool, true, false, ◌||◌, eqb, List, [], ◌∷◌, ◌++◌, length, get_or, take, drop, set, replicate, pos, Some, None, Ok, Err, Option, sym, refl, ap, ◌∙◌, subst, inl, inr, add-one, arith}
use Rattle.std.specs.Option.{option_or}
use lib.Signed.{le_z, lt_z}
use Rattle.std.proofs.lemmas.List.FromFn.{length-map-range_with_len, get_or-map-range_with_len, map-range_with_len_more}
use Rattle.std.proofs.lemmas.List.{get_or_append_left, take_more_set, take_at, take_all, drop-replicate}
use Rattle.std.proofs.lemmas.Bool.{cases_lt, eqb-true, ltb-true}
use Rattle.kinds.specs.Meaning.{KindMeaning}
use Rattle.model.specs.declared.entries.Entry.{Entry}
use Rattle.model.specs.Entries.{none}
use Rattle.frames.specs.declared.fault.ReaderFault.{ReaderFault}
use Rattle.frames.specs.Layout.{Heading, entry_in, entries_in}
use Rattle.model.specs.Checks.{demand, unless}
use Rattle.frames.specs.Reading.{entry_fault, first_of, row_in, address_fault, ForUs}

pub first_of_more : (check : ℕ → Option ReaderFault) (i : ℕ) → first_of check i ≡ None → check i ≡ None → first_of check (i + 1) ≡ None
first_of_more check i before here = rw (add-one i, before, here)

-- the first check that fails decides
pub first_of_stops : (check : ℕ → Option ReaderFault) (i n : ℕ) (fault : ReaderFault) → i < n → first_of check i ≡ None → check i ≡ Some fault → first_of check n ≡ Some fault
first_of_stops check i zero fault in_row before here = absurd (omega arith)
first_of_stops check i (suc k) fault in_row before here =
    elim (cases_lt i k) [
      | inl less ↦ ap (λ o. option_or o (check k)) (first_of_stops check i k fault less before here)
      | inr past ↦ let same : i ≡ k = omega arith in subst (λ j. option_or (first_of check j) (check j) ≡ Some fault) same (rw (before, here))
    ]

option_or_none : {E : Type 0} (o later : Option E) → option_or o later ≡ None → (o ≡ None) × (later ≡ None)
option_or_none (Some f) later is = (is, cc)
option_or_none None later is = (refl, is)

-- where all checks pass, so does the first
pub passes : {E : Type 0} (t : Bool) (fault : E) (later : Option E) → option_or (demand t fault) later ≡ None → (t ≡ true) × (later ≡ None)
passes true fault later is = (refl, is)
passes false fault later is = (cc, cc)

passes_last : {E : Type 0} (t : Bool) (fault : E) → demand t fault ≡ None → t ≡ true
passes_last true fault is = refl
passes_last false fault is = cc

-- what is known of an entry without a fault
pub record Right (counts : Bool) (e : Entry) : Type 0 where
  pub within : le_z e.vote e.promise ≡ true
  pub coded : (le_z (pos 0) e.vote || eqb e.code 0) ≡ true
  pub counted : (lt_z e.vote (pos 0) || counts) ≡ true

pub right_entry : (counts : Bool) (e : Entry) (place : ℕ) → entry_fault counts e place ≡ None → Right counts e
right_entry counts e place clear =
    let a = passes _ _ _ clear in
    let b = passes _ _ _ a.1 in
    record { within = a.0; coded = b.0; counted = passes_last _ _ b.1 }

pub right_address : {V : Type 0} (m : KindMeaning V) (h : Heading) (n cells q : ℕ) → address_fault m h n cells q ≡ None → ForUs m h n cells q
right_address m h n cells q clear =
    let a = passes _ _ _ clear in
    let b = passes _ _ _ a.1 in
    let c = passes _ _ _ b.1 in
    record { same_n = eqb-true _ _ a.0; same_kind = eqb-true _ _ b.0; addressed = c.0; within = ltb-true _ _ (passes_last _ _ c.1) }

-- where none of the checks fails, each passes
pub first_of_at : (check : ℕ → Option ReaderFault) (n : ℕ) → first_of check n ≡ None → (i : ℕ) → i < n → check i ≡ None
first_of_at check zero is i in_row = absurd (omega arith)
first_of_at check (suc k) is i in_row =
    let both = option_or_none (first_of check k) (check k) is in
    elim (cases_lt i k) [
      | inl less ↦ first_of_at check k both.0 i less
      | inr past ↦ let same : k ≡ i = omega arith in subst (λ j. check j ≡ None) same both.1
    ]

-- what an answer tells of the checks
pub unless_err : {X E : Type 0} (o : Option E) (x : X) (fault : E) → Err fault ≡ unless o x → o ≡ Some fault
unless_err (Some f) x fault is = cc
unless_err None x fault is = cc

pub unless_ok : {X E : Type 0} (o : Option E) (x y : X) → Ok y ≡ unless o x → (o ≡ None) × (y ≡ x)
unless_ok (Some f) x y is = (cc, cc)
unless_ok None x y is = (refl, cc)

-- one entry more is read into its slot
pub row_more : (bytes : List ℕ) (es : List Entry) (i : ℕ) (e : Entry) → i < length es → take i es ≡ entries_in bytes i → e ≡ entry_in bytes i → take (i + 1) (set es i e) ≡ entries_in bytes (i + 1)
row_more bytes es i e in_row was is = take_more_set es i e in_row ∙ (λ j. was j ++ is j ∷ []) ∙ sym (map-range_with_len_more (entry_in bytes) 0 i i (omega arith))

-- all n are read, and the slots past them are idle
pub row_whole : (check : ℕ → Option ReaderFault) (bytes : List ℕ) (es : List Entry) (idle : Entry) (i n : ℕ) → length es ≡ n → i ≡ n → idle ≡ none → first_of check i ≡ None → take i es ≡ entries_in bytes i → Ok (record { entries = es ++ drop n (replicate 7 idle) }) ≡ unless (first_of check n) (row_in bytes n)
row_whole check bytes es idle i n long all is clear was =
    let read : es ≡ entries_in bytes n = sym (take_all i es (omega arith)) ∙ was ∙ ap (entries_in bytes) all in
    let past : drop n (replicate 7 idle) ≡ replicate (7 - n) none = drop-replicate n 7 idle ∙ ap (replicate (7 - n)) is in
    (λ j. Ok (record { entries = read j ++ past j })) ∙ sym (ap (λ o. unless o (row_in bytes n)) (ap (first_of check) (sym all) ∙ clear))

-- the entries of a row that was read, without its idle slots
pub row_front : (bytes : List ℕ) (n : ℕ) → take n (row_in bytes n).entries ≡ entries_in bytes n
row_front bytes n = take_at (entries_in bytes n) (replicate (7 - n) none) n (length-map-range_with_len (entry_in bytes) 0 n)

-- an entry of a row that was read
pub row_at : (bytes : List ℕ) (n i : ℕ) (d : Entry) → i < n → get_or (row_in bytes n).entries i d ≡ entry_in bytes i
row_at bytes n i d in_row =
    get_or_append_left (entries_in bytes n) (replicate (7 - n) none) d i (omega (arith, length-map-range_with_len (entry_in bytes) 0 n)) ∙ get_or-map-range_with_len (entry_in bytes) 0 n i i d in_row (omega arith)
