-- Lemmas for rows that start again from the store, one after another. Assumes nothing.
use Rattle.std.proofs.Common.{◌≡◌, ℕ, ◌+◌, ◌*◌, ◌<◌, ◌≤◌, List, sym, ◌∙◌, subst, inl, ⊎_elim, arith}
use Rattle.std.proofs.lemmas.Nat.{mul-le}
use Rattle.std.proofs.lemmas.Bool.{cases_eq}
use Rattle.model.specs.declared.rows.Row.{Row}
use Rattle.machine.specs.Board.{Makes}
use Rattle.machine.specs.Starts.{row_in, first_row, Reloaded, FirstRows}

-- rows of an earlier participant lie before those of a later one
pub before_later : (q p c cells : ℕ) → q < p → c < cells → q * cells + c < p * cells
before_later q p c cells h k = let z : (q + 1) * cells ≤ p * cells = mul-le (q + 1) cells p cells (omega arith) (omega arith) in
    let y : (q + 1) * cells ≡ q * cells + cells = omega arith in
    omega arith

module _ {V Q P S : Type 0} (m : Makes V Q P S) (store : S) (cells : ℕ) where
  -- one participant's rows after those of the ones before it
  pub first_rows_more : (p : ℕ) (before after : List Row) → FirstRows m p cells store before → Reloaded m cells store p before after → FirstRows m (p + 1) cells store after
  first_rows_more p before after h s q c qs cs =
      ⊎_elim (λ e. subst (λ k. row_in after (k * cells + c) ≡ first_row k (m.store.at store (k * cells + c))) (sym e) (s.own c cs))
      (λ ne. s.others (q * cells + c) (inl (before_later q p c cells (omega arith) cs)) ∙ h q c (omega arith) cs)
      (cases_eq q p)
