-- Rows, places of the store and waiting frames that fit the ledgers of their cells, and how they go on fitting. Assumes nothing.
use Rattle.std.proofs.Common.{◌≡◌, ℕ, ◌+◌, ◌*◌, ◌<◌, ◌≤◌, true, false, cond, eqb, List, length, set, replicate, sym, refl, ap, ◌∙◌, subst, inl, ⊎_elim, arith}
use Rattle.std.proofs.lemmas.List.{length-set, length-replicate}
use Rattle.std.proofs.lemmas.Bool.{cases_eq, eqb-true, eq-eqb, ne_eqb, cond_both, cond-true, cond-false}
use Rattle.ledger.specs.Ledgers.{Ledger, saved, latest, Past, Onward, still, onward}
use Rattle.ledger.specs.Growth.{PastRow, Kept}
use Rattle.ledger.proofs.Histories.{past_onward, row_onward, latest_newest, latest_other, latest_past}
use Rattle.model.specs.Entries.{none, is_entry}
use Rattle.model.specs.Sets.{member}
use Rattle.model.specs.declared.entries.Entry.{Entry}
use Rattle.model.specs.declared.rows.Row.{Row}
use Rattle.quorums.specs.Meaning.{RuleMeaning}
use Rattle.steps.specs.Rows.{entry_at}
use Rattle.stores.specs.Meaning.{StoreMeaning, OnlyAt}
use Rattle.machine.specs.Board.{row_at, renewed}
use Rattle.machine.proofs.Tables.{one_participant, one_cell, one_renewed, entry_renewed, entry_other, each_renewed, entry_none}

-- the ledgers of all cells once p came to hold e in cell c
abbrev pub grown : (ℕ → Ledger) → ℕ → ℕ → Entry → ℕ → Ledger
grown L c p e d = cond (eqb d c) (saved (L d) p e) (L d)

module _ (L : ℕ → Ledger) (c p : ℕ) (e : Entry) where
  pub grown_onward : (d : ℕ) → Onward (L d) (grown L c p e d)
  grown_onward d = cond_both (eqb d c) (saved (L d) p e) (L d) (Onward (L d)) (λ _. onward still) (λ _. still)

  grown_here : grown L c p e c ≡ saved (L c) p e
  grown_here = cond-true (eqb c c) (saved (L c) p e) (L c) (eq-eqb c c refl)

  pub grown_newest : latest (grown L c p e c) p ≡ e
  grown_newest = ap (λ M. latest M p) grown_here ∙ latest_newest (L c) p e

  pub grown_others : (q d : ℕ) → (q ≡ p → d ≡ c → ⊥) → latest (grown L c p e d) q ≡ latest (L d) q
  grown_others q d ne = ⊎_elim (λ cell. ⊎_elim (λ same. absurd (ne same cell)) (λ other. in_cell cell other) (cases_eq q p)) elsewhere (cases_eq d c)
    where
      in_cell : d ≡ c → (q ≡ p → ⊥) → latest (grown L c p e d) q ≡ latest (L d) q
      in_cell cell other = ap (λ M. latest M q) (cond-true (eqb d c) (saved (L d) p e) (L d) (eq-eqb d c cell)) ∙ latest_other (L d) p q e other

      elsewhere : (d ≡ c → ⊥) → latest (grown L c p e d) q ≡ latest (L d) q
      elsewhere ne = ap (λ M. latest M q) (cond-false (eqb d c) (saved (L d) p e) (L d) (ne_eqb d c ne))

  pub grown_past : Past (grown L c p e c) p e
  grown_past = subst (Past (grown L c p e c) p) grown_newest (latest_past (grown L c p e c) p)

  pub grown_kept : {Q : Type 0} (m : RuleMeaning Q) (rule : Q) (handed : ℕ → ℕ → Type 0) (cells : ℕ)
      → ((d : ℕ) → d < cells → Kept m rule (handed d) (L d)) → Kept m rule (handed c) (saved (L c) p e)
      → (d : ℕ) → d < cells → Kept m rule (handed d) (grown L c p e d)
  grown_kept m rule handed cells old new d dn =
      cond_both (eqb d c) (saved (L d) p e) (L d) (Kept m rule (handed d))
      (λ is. subst (λ k. Kept m rule (handed k) (saved (L k) p e)) (sym (eqb-true d c is)) new) (λ _. old d dn)

-- participant p's row of cell c: seven entries that their owners held, and the own one the latest unless p is down
pub record Fits (n : ℕ) (L : ℕ → Ledger) (down p c : ℕ) (row : List Entry) : Type 0 where
  pub shaped : length row ≡ 7
  pub own : member down p ≡ false → entry_at row p ≡ latest (L c) p
  pub past : PastRow (L c) n (entry_at row)

abbrev pub AllFit : ℕ → ℕ → (ℕ → Ledger) → ℕ → List Row → Type 0
AllFit n cells L down rows = (p c : ℕ) → p < n → c < cells → Fits n L down p c (row_at rows (p * cells + c))

module _ (n : ℕ) (few : n ≤ 7) (L : ℕ → Ledger) where
  -- another's entry is renewed by one that it held
  fits_view : (down p c : ℕ) (row : List Entry) (i : ℕ) (e : Entry) → Fits n L down p c row → i < n → (p ≡ i → ⊥) → is_entry e ≡ true → Past (L c) i e
      → Fits n L down p c (set row i e)
  fits_view down p c row i e f lt other ok past =
      record {
        shaped = length-set row i e ∙ f.shaped;
        own = λ up. entry_other row i p e other ∙ f.own up;
        past = each_renewed (Past (L c)) n row i e (omega (arith, f.shaped)) ok past (λ j jn _. f.past j jn);
      }

  -- the own entry is renewed by the new latest one
  fits_saved : (down p c : ℕ) (row : List Entry) (e : Entry) → Fits n L down p c row → p < n → is_entry e ≡ true → Fits n (grown L c p e) down p c (set row p e)
  fits_saved down p c row e f lt ok =
      let within : p < length row = omega (arith, f.shaped) in
      record {
        shaped = length-set row p e ∙ f.shaped;
        own = λ _. entry_renewed row p e within ok ∙ sym (grown_newest L c p e);
        past = each_renewed (Past (grown L c p e c)) n row p e within ok (grown_past L c p e) (λ j jn _. past_onward (grown_onward L c p e c) (f.past j jn));
      }

  -- a row stays where its owner did not save, or is down
  pub fits_beside : (down downs q d c p : ℕ) (row : List Entry) (e : Entry) → Fits n L down q d row
      → (member downs q ≡ false → (member down q ≡ false) × (q ≡ p → d ≡ c → ⊥)) → Fits n (grown L c p e) downs q d row
  fits_beside down downs q d c p row e f up =
      record {
        shaped = f.shaped;
        own = λ is. f.own (up is).0 ∙ sym (grown_others L c p e q d (up is).1);
        past = row_onward (grown_onward L c p e d) f.past;
      }

  pub fits_down : (down downs q d : ℕ) (row : List Entry) → Fits n L down q d row → (member downs q ≡ false → member down q ≡ false) → Fits n L downs q d row
  fits_down down downs q d row f up = record { shaped = f.shaped; own = λ is. f.own (up is); past = f.past }

  -- a row that starts from the latest entry of its owner
  pub fits_first : (down p c : ℕ) (e : Entry) → p < n → is_entry e ≡ true → e ≡ latest (L c) p → Fits n L down p c (set (replicate 7 none) p e)
  fits_first down p c e lt ok is =
      let within : p < length (replicate 7 none) = omega (arith, length-replicate 7 none) in
      record {
        shaped = length-set (replicate 7 none) p e ∙ length-replicate 7 none;
        own = λ _. entry_renewed (replicate 7 none) p e within ok ∙ is;
        past = each_renewed (Past (L c)) n (replicate 7 none) p e within ok (subst (Past (L c) p) (sym is) (latest_past (L c) p)) (λ j jn _. inl (entry_none 7 j (omega arith)));
      }

  module _ (cells down : ℕ) (rows : List Row) (all : length rows ≡ n * cells) (fit : AllFit n cells L down rows) (p c : ℕ) (pn : p < n) (cn : c < cells) (e : Entry)
      (ok : is_entry e ≡ true)
    where
      pub all_fit_view : (i : ℕ) → i < n → (p ≡ i → ⊥) → Past (L c) i e → AllFit n cells L down (renewed rows (p * cells + c) i e)
      all_fit_view i lt other past =
          one_renewed (Fits n L down) n cells rows p c i e all pn cn (fits_view down p c _ i e (fit p c pn cn) lt other ok past) (λ q d qn dn _. fit q d qn dn)

      pub all_fit_saved : AllFit n cells (grown L c p e) down (renewed rows (p * cells + c) p e)
      all_fit_saved =
          one_renewed (Fits n (grown L c p e) down) n cells rows p c p e all pn cn (fits_saved down p c _ e (fit p c pn cn) pn ok)
          (λ q d qn dn ne. fits_beside down down q d c p _ e (fit q d qn dn) (λ up. (up, ne)))

-- what the store keeps of each cell for each owner
abbrev pub Keeps : {S : Type 0} → StoreMeaning S → ℕ → ℕ → (ℕ → Ledger) → S → Type 0
Keeps m n cells L s = (i c : ℕ) → i < n → c < cells → m.at s (i * cells + c) ≡ latest (L c) i

pub keeps_saved : {S : Type 0} (m : StoreMeaning S) (n cells : ℕ) (L : ℕ → Ledger) (before after : S) (p c : ℕ) (e : Entry) → Keeps m n cells L before → c < cells
    → m.at after (p * cells + c) ≡ e → OnlyAt m (p * cells + c) before after → Keeps m n cells (grown L c p e) after
keeps_saved m n cells L before after p c e old cn new only i d lt dn = ⊎_elim same other (cases_eq (i * cells + d) (p * cells + c))
  where
    same : i * cells + d ≡ p * cells + c → m.at after (i * cells + d) ≡ latest (grown L c p e d) i
    same is =
        let who = one_participant cells i p d c dn cn is in
        let cell = one_cell cells i p d c dn cn is in
        ap (m.at after) is ∙ new ∙ sym (grown_newest L c p e) ∙ sym (λ j. latest (grown L c p e (cell j)) (who j))

    other : (i * cells + d ≡ p * cells + c → ⊥) → m.at after (i * cells + d) ≡ latest (grown L c p e d) i
    other ne = only.others (i * cells + d) ne ∙ old i d lt dn ∙ sym (grown_others L c p e i d (λ a b. ne (λ j. a j * cells + b j)))
