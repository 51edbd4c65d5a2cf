-- What the rows show after an announcement, and after a step that took over what a sender knows. Assumes nothing.
use Rattle.std.proofs.Common.{◌≡◌, ℕ, ◌+◌, ◌*◌, ◌<◌, ◌≤◌, true, List, length, get_or, set, pos, ap, ◌∙◌, inl, inr, mul-le-mul_right, arith}
use Rattle.std.proofs.lemmas.List.{get_or-set_same, get_or-set_other, length-set}
use Rattle.std.proofs.lemmas.Bool.{cases_order}
use Rattle.model.specs.Entries.{is_entry, clean}
use Rattle.model.specs.declared.entries.Entry.{Entry}
use Rattle.model.specs.declared.rows.Row.{Row}
use Rattle.model.proofs.Proper.{clean_same, clean_is_entry}
use Rattle.steps.specs.Entries.{seen, adopted}
use Rattle.steps.specs.Rows.{entry_at}
use Rattle.steps.proofs.Growth.{seen_entry, adopted_entry}
use Rattle.machine.specs.Board.{Table, row_at, renewed, place_of, row_of, own, with_rows}

-- what a row shows is an entry
pub shown_entry : (entries : List Entry) (i : ℕ) → is_entry (entry_at entries i) ≡ true
shown_entry entries i = clean_is_entry (get_or entries i (record { promise = pos 0; vote = pos 0; code = 0 }))

-- a participant's place is one of the rows
pub place_within : (n cells p c : ℕ) → p < n → c < cells → p * cells + c < n * cells
place_within n cells p c lt in_cells = let most : (1 + p) * cells ≤ n * cells = mul-le-mul_right cells (omega arith) in omega arith

before_place : (cells p q c : ℕ) → p < q → c < cells → p * cells + c < q * cells + c
before_place cells p q c lt in_cells = let most : (1 + p) * cells ≤ q * cells = mul-le-mul_right cells (omega arith) in omega arith

-- two participants have two places
pub places_differ : (cells p q c : ℕ) → c < cells → (p ≡ q → ⊥) → p * cells + c ≡ q * cells + c → ⊥
places_differ cells p q c in_cells other same =
    elim (cases_order p q) [
      | inl e ↦ other e
      | inr (inl less) ↦ let l = before_place cells p q c less in_cells in omega arith
      | inr (inr more) ↦ let l = before_place cells q p c more in_cells in omega arith
    ]

module _ (rows : List Row) (place i : ℕ) (e : Entry) where
  module _ (within : place < length rows) where
    renewed_row : row_at (renewed rows place i e) place ≡ set (row_at rows place) i e
    renewed_row = ap (λ r. r.entries) (get_or-set_same rows place _ _ within)

    pub renewed_here : i < length (row_at rows place) → is_entry e ≡ true → entry_at (row_at (renewed rows place i e) place) i ≡ e
    renewed_here long ok = ap (λ r. entry_at r i) renewed_row ∙ ap clean (get_or-set_same (row_at rows place) i e _ long) ∙ clean_same e ok

    pub renewed_beside : (j : ℕ) → (j ≡ i → ⊥) → entry_at (row_at (renewed rows place i e) place) j ≡ entry_at (row_at rows place) j
    renewed_beside j other = ap (λ r. entry_at r j) renewed_row ∙ ap clean (get_or-set_other (row_at rows place) i j e _ other)

    pub renewed_long : length (row_at (renewed rows place i e) place) ≡ length (row_at rows place)
    renewed_long = ap length renewed_row ∙ length-set (row_at rows place) i e

  pub renewed_elsewhere : (other : ℕ) → (other ≡ place → ⊥) → row_at (renewed rows place i e) other ≡ row_at rows other
  renewed_elsewhere other ne = ap (λ r. r.entries) (get_or-set_other rows place other _ _ ne)

module _ {Q : Type 0} where
  -- participant i's entry in participant q's row of cell c
  abbrev pub view : Table Q → ℕ → ℕ → ℕ → Entry
  view t c q i = entry_at (row_of t q c) i

  -- the table after q took over what the sender's entry says
  abbrev pub taking_over : Table Q → ℕ → ℕ → ℕ → Entry → Table Q
  taking_over t q c s e =
      with_rows t (renewed (renewed t.rows (place_of t q c) s (seen (entry_at (row_of t q c) s) e)) (place_of t q c) q (adopted (own t q c) e))

  -- the table after p's own entry became another
  abbrev pub announcing : Table Q → ℕ → ℕ → Entry → Table Q
  announcing t p c e = with_rows t (renewed t.rows (place_of t p c) p e)

  module _ (t : Table Q) (q c : ℕ) (in_cells : c < t.cells) (within : place_of t q c < length t.rows) (long : q < length (row_of t q c)) where
    pub announced_own : (e : Entry) → is_entry e ≡ true → view (announcing t q c e) c q q ≡ e
    announced_own e ok = renewed_here t.rows (place_of t q c) q e within long ok

    pub announced_beside : (e : Entry) (i : ℕ) → (i ≡ q → ⊥) → view (announcing t q c e) c q i ≡ view t c q i
    announced_beside e i other = renewed_beside t.rows (place_of t q c) q e within i other

    pub announced_others : (e : Entry) (r i : ℕ) → (r ≡ q → ⊥) → view (announcing t q c e) c r i ≡ view t c r i
    announced_others e r i other = ap (λ l. entry_at l i) (renewed_elsewhere t.rows (place_of t q c) q e (place_of t r c) (places_differ t.cells r q c in_cells other))

    module _ (s : ℕ) (e : Entry) (ok : is_entry e ≡ true) where
      abbrev place : ℕ
      place = place_of t q c

      abbrev once : List Row
      once = renewed t.rows place s (seen (entry_at (row_of t q c) s) e)

      within_once : place < length once
      within_once = omega (arith, within, length-set t.rows place (record { entries = set (row_of t q c) s (seen (entry_at (row_of t q c) s) e) }))

      pub took_own : view (taking_over t q c s e) c q q ≡ adopted (own t q c) e
      took_own =
          renewed_here once place q _ within_once (omega (arith, long, renewed_long t.rows place s (seen (entry_at (row_of t q c) s) e) within))
          (adopted_entry _ e (shown_entry (row_of t q c) q) ok)

      pub took_sender : (s ≡ q → ⊥) → s < length (row_of t q c) → view (taking_over t q c s e) c q s ≡ seen (view t c q s) e
      took_sender other s_long =
          renewed_beside once place q _ within_once s other ∙ renewed_here t.rows place s _ within s_long (seen_entry _ e (shown_entry (row_of t q c) s) ok)

      pub took_beside : (i : ℕ) → (i ≡ s → ⊥) → (i ≡ q → ⊥) → view (taking_over t q c s e) c q i ≡ view t c q i
      took_beside i a b = renewed_beside once place q _ within_once i b ∙ renewed_beside t.rows place s _ within i a

      pub took_others : (r i : ℕ) → (r ≡ q → ⊥) → view (taking_over t q c s e) c r i ≡ view t c r i
      took_others r i other =
          let ne = places_differ t.cells r q c in_cells other in
          ap (λ l. entry_at l i) (renewed_elsewhere once place q _ (place_of t r c) ne ∙ renewed_elsewhere t.rows place s _ (place_of t r c) ne)
