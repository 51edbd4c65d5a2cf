-- Lemmas for the steps. Assumes nothing.
use Rattle.std.proofs.Common.{◌≡◌, ℕ, ◌+◌, ◌-◌, ◌*◌, ◌≤◌, Bool, List, ◌++◌, length, get_or, take, drop, ℤ, IfSome, Some, None, Ok, Err, Option, Result, sym, refl, ap, ◌∙◌, subst, inr, arith, length-append, length-drop}
use Rattle.std.proofs.lemmas.List.{take_at}
use Rattle.model.specs.declared.entries.Entry.{Entry}
use Rattle.model.specs.declared.faults.Fault.{Fault}
use Rattle.machine.specs.Board.{Makes, Board, Turn, place_of, row_at, row_of, own, renewed, with_rows}
use Rattle.frames.specs.Reading.{Spells}
use Rattle.frames.specs.declared.reader.Frame.{Frame}
use Rattle.machine.specs.Calls.{entry_of, Votes, AcksRow, Acks, TookOver, TakesOver, Receives, Delivered, Delivers}
use Rattle.machine.specs.Refusals.{door}
use Rattle.machine.specs.Keeping.{Keeps, SavesChange, KeepsChange}
use Rattle.stores.specs.Meaning.{StoreMeaning}
use Rattle.steps.specs.Entries.{seen, adopted, behind}
use Rattle.steps.specs.Rows.{entry_at}
use Rattle.posts.specs.Meaning.{PostMeaning, Takes, no_item}

-- a frame that was taken lies within the buffer
pub taken_within : {P : Type 0} (m : PostMeaning P) (before after : P) (q k : ℕ) (out filled : List ℕ) (r : Option ℕ) → length out ≡ 88 → length filled ≡ 88 → Takes m before q k out r after filled → IfSome r (λ len. len ≤ 88)
taken_within m before after q k out filled None a b t = tt
taken_within m before after q k out filled (Some n) a b t =
    let f = (get_or (m.items before) t.index no_item).frame in
    omega (arith, ap length t.opens, length-append f (drop n out), length-drop n out, t.long)

-- the front of a buffer that a frame was written to
pub cut_frame : (out frame rest : List ℕ) (len : ℕ) → out ≡ frame ++ rest → len ≡ length frame → take (len - 0) out ≡ frame
cut_frame out frame rest len is long =
    let whole : len - 0 ≡ length frame = omega arith in
    (λ i. take (whole i) (is i)) ∙ take_at frame rest (length frame) refl

pub less_nothing : (k : ℕ) → k - 0 ≡ k
less_nothing k = omega arith

-- a vote by the numbers of a turn
pub at_turn : {V Q P S : Type 0} (m : Makes V Q P S) (x y : Board Q P S) (t : Turn) (p c : ℕ) (b : ℤ) (wish : V) (r : Result (V × ℕ) Fault)
    → p ≡ t.p → c ≡ t.c → b ≡ t.b → Votes m x p c b wish r y → Votes m x t.p t.c t.b wish r y
at_turn m x y t p c b wish r ps cs bs h =
    subst (λ z. Votes m x t.p t.c z wish r y) bs (subst (λ z. Votes m x t.p z b wish r y) cs (subst (λ z. Votes m x z c b wish r y) ps h))

-- an entry that is another than before was saved
pub another_kept : {S : Type 0} (m : StoreMeaning S) (before after : S) (down downs p place : ℕ) (old new : Entry) (r : Result (Unit {0}) Fault)
    → (new ≡ old → ⊥) → Keeps m before down p place new r after downs → KeepsChange m before down p place old new r after downs
another_kept m before after down downs p place old new (Ok u) ne k = (inr (ne, k.0), k.1)
another_kept m before after down downs p place old new (Err f) ne k = (ne, k)

module _ {V Q P S : Type 0} (m : Makes V Q P S) (x y : Board Q P S) (q : ℕ) where
  -- a frame that was read, past an open door, is received
  pub received : (bytes : List ℕ) (frame : Frame) (r : Result ℕ Fault) → door x.table q ≡ None → Spells m.kind bytes x.table.n x.table.cells q frame → TakesOver m x q frame r y → Receives m x q bytes r y
  received bytes frame (Err f) d s t = inr (d, inr (frame, s, t))
  received bytes frame (Ok kept) d s t = (d, (frame, s, t))

  pub delivered : (k : ℕ) (out filled : List ℕ) (r : Result ℕ Fault) → Delivered m x q k out r y filled → Delivers m x q k out r y filled
  delivered k out filled (Err f) d = inr (inr d)
  delivered k out filled (Ok kept) d = d

-- what a receive did, piece by piece
pub took_over : {V Q P S : Type 0} (m : Makes V Q P S) (x y : Board Q P S) (q : ℕ) (frame : Frame) (kept place : ℕ) (before after view : Entry) (owed : Bool)
    → place ≡ place_of x.table q frame.header.cell
    → before ≡ entry_at (row_at x.table.rows place) q
    → after ≡ adopted before (entry_of frame frame.header.sender)
    → view ≡ seen (entry_at (row_at x.table.rows place) frame.header.sender) (entry_of frame frame.header.sender)
    → y.table ≡ with_rows x.table (renewed (renewed x.table.rows place frame.header.sender view) place q after)
    → SavesChange m.store x.store place before after y.store
    → owed ≡ behind (entry_of frame q) after
    → AcksRow m owed y.table.n (row_at y.table.rows place) x.post q frame.header.cell frame.header.sender kept y.post
    → TookOver m x q frame kept y
took_over m x y q frame kept place before after view owed at is next sees t saves owes acks =
    let c = frame.header.cell in
    let from = frame.header.sender in
    let s = entry_of frame from in
    let rows = x.table.rows in
    let was : before ≡ own x.table q c = is ∙ (λ i. entry_at (row_at rows (at i)) q) in
    let now_is : after ≡ adopted (own x.table q c) s = next ∙ ap (λ e. adopted e s) was in
    let seen-is : view ≡ seen (entry_at (row_of x.table q c) from) s = sees ∙ (λ i. seen (entry_at (row_at rows (at i)) from) s) in
    record {
      saves = subst (λ e. SavesChange m.store x.store (place_of x.table q c) (own x.table q c) e y.store) now_is
          (subst (λ e. SavesChange m.store x.store (place_of x.table q c) e after y.store) was
          (subst (λ k. SavesChange m.store x.store k before after y.store) at saves));
      table = t ∙ (λ i. with_rows x.table (renewed (renewed rows (at i) from (seen-is i)) (at i) q (now_is i)));
      acks = subst (λ o. Acks m o y.table x.post q c from kept y.post) (owes ∙ ap (behind (entry_of frame q)) now_is)
          (subst (λ k. AcksRow m owed y.table.n (row_at y.table.rows k) x.post q c from kept y.post) (at ∙ ap (λ k. q * k + c) (sym (ap (λ u. u.cells) t))) acks);
    }
