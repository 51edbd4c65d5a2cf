-- Rows of a table, and what one renewed entry changes. Assumes nothing.
use Rattle.std.proofs.Common.{◌≡◌, ℕ, ◌+◌, ◌*◌, ◌<◌, true, List, [], length, get_or, take, set, replicate, pos, sym, ap, ◌∙◌, subst, ⊎_elim, mul-le-mul_right, suc-mul, arith}
use Rattle.std.proofs.lemmas.List.{get_or-set_same, get_or-set_other, get_or-take, get_or-replicate}
use Rattle.std.proofs.lemmas.Bool.{cases_eq, cases_lt}
use Rattle.model.proofs.Proper.{clean_same, clean_is_entry}
use Rattle.model.specs.Entries.{none, is_entry, clean}
use Rattle.model.specs.declared.entries.Entry.{Entry}
use Rattle.model.specs.declared.rows.Row.{Row}
use Rattle.steps.specs.Rows.{entry_at}
use Rattle.machine.specs.Board.{row_at, renewed}

-- the places of a participant lie below those of a later one
pub place_below : (cells p q c : ℕ) → p < q → c < cells → p * cells + c < q * cells
place_below cells p q c less within = omega (arith, mul-le-mul_right cells less, suc-mul p cells)

-- a place has one participant and one cell
pub one_participant : (cells p q c d : ℕ) → c < cells → d < cells → p * cells + c ≡ q * cells + d → p ≡ q
one_participant cells p q c d a b is =
    ⊎_elim (λ less. absurd (omega (arith, place_below cells p q c less a)))
    (λ least. ⊎_elim (λ less. absurd (omega (arith, place_below cells q p d less b))) (λ most. omega arith) (cases_lt q p)) (cases_lt p q)

pub one_cell : (cells p q c d : ℕ) → c < cells → d < cells → p * cells + c ≡ q * cells + d → c ≡ d
one_cell cells p q c d a b is =
    let same = one_participant cells p q c d a b is in
    let rows : p * cells ≡ q * cells = ap (λ k. k * cells) same in
    omega arith

-- a statement on all rows after one entry of one row was renewed
pub one_renewed : (P : ℕ → ℕ → List Entry → Type 0) (n cells : ℕ) (rows : List Row) (p c i : ℕ) (e : Entry) → length rows ≡ n * cells → p < n → c < cells
    → P p c (set (row_at rows (p * cells + c)) i e)
    → ((q d : ℕ) → q < n → d < cells → (q ≡ p → d ≡ c → ⊥) → P q d (row_at rows (q * cells + d)))
    → (q d : ℕ) → q < n → d < cells → P q d (row_at (renewed rows (p * cells + c) i e) (q * cells + d))
one_renewed P n cells rows p c i e all pn in_row here there q d qn dn = ⊎_elim same other (cases_eq (q * cells + d) place)
  where
    place : ℕ
    place = p * cells + c

    row : Row
    row = record { entries = set (row_at rows place) i e }

    same : q * cells + d ≡ place → P q d (row_at (set rows place row) (q * cells + d))
    same is =
        let at : row_at (set rows place row) place ≡ row.entries = ap (λ (r : Row). r.entries) (get_or-set_same rows place row (record { entries = [] }) (omega (arith, place_below cells p n c pn in_row))) in
        let mine : P p c (row_at (set rows place row) (q * cells + d)) = subst (P p c) (sym (ap (row_at (set rows place row)) is ∙ at)) here in
        subst (λ k. P k d (row_at (set rows place row) (q * cells + d))) (sym (one_participant cells q p d c dn in_row is))
        (subst (λ k. P p k (row_at (set rows place row) (q * cells + d))) (sym (one_cell cells q p d c dn in_row is)) mine)

    other : (q * cells + d ≡ place → ⊥) → P q d (row_at (set rows place row) (q * cells + d))
    other ne =
        let at = ap (λ (r : Row). r.entries) (get_or-set_other rows place (q * cells + d) row (record { entries = [] }) ne) in
        subst (P q d) (sym at) (there q d qn dn (λ a b. ne (λ j. a j * cells + b j)))

-- what counts of a row is an entry
pub at_is_entry : (row : List Entry) (i : ℕ) → is_entry (entry_at row i) ≡ true
at_is_entry row i = clean_is_entry (get_or row i (record { promise = pos 0; vote = pos 0; code = 0 }))

pub entry_renewed : (row : List Entry) (i : ℕ) (e : Entry) → i < length row → is_entry e ≡ true → entry_at (set row i e) i ≡ e
entry_renewed row i e within ok = ap clean (get_or-set_same row i e _ within) ∙ clean_same e ok

pub entry_other : (row : List Entry) (i j : ℕ) (e : Entry) → (j ≡ i → ⊥) → entry_at (set row i e) j ≡ entry_at row j
entry_other row i j e ne = ap clean (get_or-set_other row i j e _ ne)

-- a statement on all entries of a row after one was renewed
pub each_renewed : (P : ℕ → Entry → Type 0) (n : ℕ) (row : List Entry) (i : ℕ) (e : Entry) → i < length row → is_entry e ≡ true → P i e
    → ((j : ℕ) → j < n → (j ≡ i → ⊥) → P j (entry_at row j)) → (j : ℕ) → j < n → P j (entry_at (set row i e) j)
each_renewed P n row i e within ok here there j jn =
    ⊎_elim (λ same. subst (λ k. P k (entry_at (set row i e) k)) (sym same) (subst (P i) (sym (entry_renewed row i e within ok)) here))
    (λ ne. subst (P j) (sym (entry_other row i j e ne)) (there j jn ne)) (cases_eq j i)

pub entry_none : (k i : ℕ) → i < k → entry_at (replicate k none) i ≡ none
entry_none k i within = ap clean (get_or-replicate k i none _ within)

pub entry_taken : (row : List Entry) (n i : ℕ) → i < n → entry_at (take n row) i ≡ entry_at row i
entry_taken row n i within = ap clean (get_or-take n row i _ within)
