-- The first fault in the order of the checks is that of the first row of the table that does not hold. Assumes nothing.
use Rattle.std.proofs.Common.{◌≡◌, ℕ, zero, suc, ◌+◌, Bool, true, false, cond, List, [], ◌∷◌, ◌++◌, Some, None, Option, sym, refl, ap, ◌∙◌, arith}
use Rattle.std.specs.Option.{option_or}
use Rattle.std.specs.List.{range_with_len, flat_map}
use Rattle.std.proofs.lemmas.List.{flat_map_more}
use Rattle.kinds.specs.Meaning.{KindMeaning}
use Rattle.frames.specs.declared.fault.ReaderFault.{ReaderFault}
use Rattle.frames.specs.Layout.{heading_in}
use Rattle.model.specs.Checks.{demand}
use Rattle.frames.specs.Reading.{first_of, fault_at, first_fault}
use Rattle.frames.specs.Tables.{Demand, first_wrong, header_table, table_at, row_table, address_table, table}

-- a row in front of a table that comes in two parts
parted : (t : Bool) (fault : ReaderFault) (whole front back : Option ReaderFault) → whole ≡ option_or front back → cond t whole (Some fault) ≡ option_or (cond t front (Some fault)) back
parted true fault whole front back is = is
parted false fault whole front back is = refl

-- a table's fault is that of its front, else that of its back
wrong_append : (front back : List Demand) → first_wrong (front ++ back) ≡ option_or (first_wrong front) (first_wrong back)
wrong_append [] back = refl
wrong_append (d ∷ ds) back = parted d.holds d.fault _ _ _ (wrong_append ds back)

-- the last of so many numbers
range_last : (a n j : ℕ) → a + n ≡ j → range_with_len a (suc n) ≡ range_with_len a n ++ j ∷ []
range_last a zero j is = let same : a ≡ j = omega arith in ap (λ k. k ∷ []) same
range_last a (suc n) j is = ap (λ l. a ∷ l) (range_last (a + 1) n j (omega arith))

-- tables one after the other, by number
wrong_last : (table : ℕ → List Demand) (k : ℕ) → first_wrong (flat_map table (range_with_len 0 (suc k))) ≡ option_or (first_wrong (flat_map table (range_with_len 0 k))) (first_wrong (table k))
wrong_last table k = ap (λ l. first_wrong (flat_map table l)) (range_last 0 k k (omega arith)) ∙ ap first_wrong (sym (flat_map_more table [] (range_with_len 0 k) k)) ∙ wrong_append (flat_map table (range_with_len 0 k)) (table k)

-- a list of checks, one behind the other
abbrev checked : List Demand → Option ReaderFault
checked [] = None
checked (d ∷ []) = demand d.holds d.fault
checked (d ∷ e ∷ es) = option_or (demand d.holds d.fault) (checked (e ∷ es))

checks_by_table : (ds : List Demand) → checked ds ≡ first_wrong ds
checks_by_table [] = refl
checks_by_table (d ∷ []) = refl
checks_by_table (d ∷ e ∷ es) = sym (parted d.holds d.fault _ None _ (sym (checks_by_table (e ∷ es))))

module _ {V : Type 0} (m : KindMeaning V) where
  rows_by_table : (bytes : List ℕ) (kind n : ℕ) → first_of (fault_at m bytes kind) n ≡ first_wrong (row_table m bytes kind n)
  rows_by_table bytes kind zero = refl
  rows_by_table bytes kind (suc k) =
      (λ i. option_or (rows_by_table bytes kind k i) (checks_by_table (table_at m bytes kind k) i)) ∙ sym (wrong_last (table_at m bytes kind) k)

  pub by_table : (bytes : List ℕ) (n cells q : ℕ) → first_fault m bytes n cells q ≡ first_wrong (table m bytes n cells q)
  unfolding first_fault
  by_table bytes n cells q =
      let h = heading_in bytes in
      let rows = row_table m bytes h.kind h.n in
      let address = address_table m h n cells q in
      (λ i. option_or (checks_by_table (header_table bytes) i) (option_or (rows_by_table bytes h.kind h.n i) (checks_by_table address i)))
      ∙ sym (wrong_append (header_table bytes) (rows ++ address) ∙ ap (option_or (first_wrong (header_table bytes))) (wrong_append rows address))
