-- What is known past the checks of a call, and that a call over wrong rows passes none. Assumes nothing.
use Rattle.std.proofs.Common.{◌≡◌, ℕ, ◌*◌, ◌%◌, ◌<◌, Bool, true, false, not, eqb, ltb, leb, length, ℤ, pos, negsuc, Some, None, Ok, Err, Option, sym, refl, ap, ◌∙◌, ⊎_elim}
use mathlib.Core.Bool.{false≢true}
use lib.Signed.{lt_z}
use Rattle.std.proofs.lemmas.Bool.{and_parts, eqb-true, eq-eqb, ltb-true}
use Rattle.std.specs.Option.{option_or}
use Rattle.ledger.specs.Growth.{owner}
use Rattle.model.specs.Sets.{member}
use Rattle.model.specs.Checks.{demand}
use Rattle.model.specs.declared.faults.Fault.{Fault}
use Rattle.quorums.specs.Meaning.{RuleMeaning}
use Rattle.steps.specs.Rows.{same_ballot, entry_at, promised}
use Rattle.machine.specs.Board.{Makes, Table, Board, row_of}
use Rattle.machine.specs.Refusals.{owns, door, cell_door, prepare_refusal, accept_refusal}
use Rattle.machine.specs.Runs.{Event, prepare, accept, abandon, deliver, restart, Does}

pub both_none : (first later : Option Fault) → option_or first later ≡ None → (first ≡ None) × (later ≡ None)
both_none None later is = (refl, is)
both_none (Some f) later is = (is, cc)

pub demanded : (passes : Bool) (f : Fault) → demand passes f ≡ None → passes ≡ true
demanded true f is = refl
demanded false f is = cc

not_passed : (t : Bool) → not t ≡ true → t ≡ false
not_passed true is = absurd (false≢true is)
not_passed false is = refl

pub owns_owner : (n p : ℕ) (b : ℤ) → owns n p b ≡ true → owner n b ≡ p
owns_owner n p (pos k) is = eqb-true (k % n) p (and_parts (leb k 16777214) (eqb (k % n) p) is).1
owns_owner n p (negsuc k) is = absurd (false≢true is)

pub same_itself : (b : ℤ) → same_ballot b b ≡ true
same_itself (pos k) = eq-eqb k k refl
same_itself (negsuc k) = eq-eqb k k refl

module _ {Q : Type 0} (t : Table Q) where
  -- participant p may act
  pub record Open (p : ℕ) : Type 0 where
    pub participant : p < t.n
    pub all : length t.rows ≡ t.n * t.cells
    pub up : member t.down p ≡ false

  pub door_open : (p : ℕ) → door t p ≡ None → Open p
  door_open p is =
      let both = both_none _ _ is in
      let here = and_parts _ _ (demanded _ _ both.0) in
      record { participant = ltb-true _ _ here.0; all = eqb-true _ _ here.1; up = not_passed _ (demanded _ _ both.1) }

  -- and in cell c
  pub record OpenCell (p c : ℕ) : Type 0 where
    pub door : Open p
    pub cell : c < t.cells

  pub cell_open : (p c : ℕ) → cell_door t p c ≡ None → OpenCell p c
  cell_open p c is =
      let both = both_none _ _ is in
      let here = and_parts _ _ (demanded _ _ both.0) in
      let who = and_parts _ _ here.0 in
      record {
        door = record { participant = ltb-true _ _ who.0; all = eqb-true _ _ here.1; up = not_passed _ (demanded _ _ both.1) };
        cell = ltb-true _ _ who.1;
      }

  pub record Preparing (p c : ℕ) (b : ℤ) : Type 0 where
    pub here : OpenCell p c
    pub mine : owns t.n p b ≡ true
    pub above : lt_z (entry_at (row_of t p c) p).promise b ≡ true

  pub prepare_open : (p c : ℕ) (b : ℤ) → prepare_refusal t p c b ≡ None → Preparing p c b
  prepare_open p c b is =
      let both = both_none _ _ is in
      let rest = both_none _ _ both.1 in
      record { here = cell_open p c both.0; mine = demanded _ _ rest.0; above = demanded _ _ rest.1 }

  pub record Accepting (m : RuleMeaning Q) (p c : ℕ) (b : ℤ) : Type 0 where
    pub here : OpenCell p c
    pub mine : owns t.n p b ≡ true
    pub promise : same_ballot (entry_at (row_of t p c) p).promise b ≡ true
    pub unvoted : (entry_at (row_of t p c) p).vote ≡ b → ⊥
    pub enough : m.promises t.rule (promised (row_of t p c) t.n b) ≡ true

  pub accept_open : (m : RuleMeaning Q) (p c : ℕ) (b : ℤ) → accept_refusal m t p c b ≡ None → Accepting m p c b
  accept_open m p c b is =
      let both = both_none _ _ is in
      let own = both_none _ _ both.1 in
      let round = both_none _ _ own.1 in
      let vote = both_none _ _ round.1 in
      let other = not_passed _ (demanded _ _ vote.0) in
      record {
        here = cell_open p c both.0;
        mine = demanded _ _ own.0;
        promise = demanded _ _ round.0;
        unvoted = λ same. false≢true (sym other ∙ ap (λ v. same_ballot v b) same ∙ same_itself b);
        enough = demanded _ _ vote.1;
      }

module _ {V Q P S : Type 0} (m : Makes V Q P S) (x : Board Q P S) (wrong : length x.table.rows ≡ x.table.n * x.table.cells → ⊥) where
  -- over rows of another length nothing is done
  pub does_nothing : (e : Event V) (y : Board Q P S) → Does m x e y → y ≡ x
  does_nothing (prepare p c b (Err f)) y h = ⊎_elim (λ r. r.1) (λ s. absurd (wrong (prepare_open x.table p c b s.0).here.door.all)) h
  does_nothing (prepare p c b (Ok (round, kept))) y h = absurd (wrong (prepare_open x.table p c b h.0).here.door.all)
  does_nothing (accept round v (Err (f, back))) y h =
      ⊎_elim (λ r. r.1) (λ s. absurd (wrong (accept_open x.table m.rule round.p round.c round.b s.0).here.door.all)) h.1
  does_nothing (accept round v (Ok (w, kept))) y h = absurd (wrong (accept_open x.table m.rule round.p round.c round.b h.0).here.door.all)
  does_nothing (abandon round) y h = h
  does_nothing (deliver q k out (Err f) filled) y h =
      ⊎_elim (λ r. r.0.1) (⊎_elim (λ r. r.2) (λ d. absurd (wrong (door_open x.table q d.open_door).all))) h
  does_nothing (deliver q k out (Ok kept) filled) y h = absurd (wrong (door_open x.table q h.open_door).all)
  does_nothing (restart p (Err f)) y h = λ i. record { table = h.0.1 i; store = h.1 i; post = h.2 i }
  does_nothing (restart p (Ok u)) y h = absurd (wrong (eqb-true _ _ (and_parts (ltb p x.table.n) _ (demanded _ _ h.0.0)).1))
