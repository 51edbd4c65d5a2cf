-- The board stays tied when a participant takes over what a frame shows. Assumes nothing.
use Rattle.std.proofs.Common.{◌≡◌, ℕ, ◌*◌, ◌<◌, Bool, true, false, List, ◌∷◌, length, Ok, Err, Result, sym, refl, ap, ◌∙◌, subst, inl, inr}
use Rattle.std.specs.List.{All}
use Rattle.std.proofs.lemmas.List.{length-set}
use Rattle.frames.proofs.Addresses.{ack_addressed, not_to_sender}
use Rattle.frames.specs.Reading.{Spells}
use Rattle.frames.specs.declared.reader.Frame.{Frame}
use Rattle.frames.specs.declared.sort.Sort.TheVariants.{Ack}
use Rattle.kinds.specs.Meaning.{KindLaws}
use Rattle.ledger.specs.Ledgers.{saved, latest, Past}
use Rattle.ledger.specs.Growth.{Kept}
use Rattle.ledger.proofs.Growing.{kept_receive}
use Rattle.ledger.proofs.Laws.{merged_past}
use Rattle.model.specs.Entries.{is_entry}
use Rattle.model.specs.Sets.{single}
use Rattle.model.specs.declared.entries.Entry.{Entry}
use Rattle.model.specs.declared.faults.Fault.{Fault}
use Rattle.model.specs.declared.rows.Row.{Row}
use Rattle.posts.specs.Meaning.{PostLaws, Item}
use Rattle.steps.proofs.Growth.{seen_entry, adopted_entry}
use Rattle.steps.specs.Entries.{seen, behind}
use Rattle.steps.specs.Rows.{entry_at}
use Rattle.stores.specs.Meaning.{OnlyAt}
use Rattle.machine.specs.Board.{Makes, Board, renewed, place_of, row_of, own, with_rows}
use Rattle.machine.specs.Calls.{entry_of, before_it, after_it, Acks, TakesOver}
use Rattle.machine.specs.Keeping.{SavesChange}
use Rattle.machine.specs.Runs.{Event}
use Rattle.machine.proofs.Ballots.{all_entries}
use Rattle.machine.proofs.Doors.{Open}
use Rattle.machine.proofs.Fitting.{grown, AllFit, all_fit_view, all_fit_saved}
use Rattle.machine.proofs.Invariant.{Ours, HandedCode, Tied}
use Rattle.machine.proofs.Tables.{at_is_entry}
use Rattle.machine.proofs.Tying.{Next, wider, fit_before, next_saved, moved, ours_after, next_stopped, ours_put}
use Rattle.machine.proofs.Waiting.{ours_read}

module _ {V Q P S : Type 0} (m : Makes V Q P S) (kinds : KindLaws m.kind) (posts : PostLaws m.post) (x : Board Q P S) (es : List (Event V))
    (T : Tied m x.table.n x.table.cells x.table.rule es x) (ev : Event V) (q : ℕ) (here : Open x.table q) (item : Item)
    (ours : Ours m x.table.n x.table.cells T.ledger item) (frame : Frame)
    (reads : Spells m.kind item.frame x.table.n x.table.cells q frame)
  where
    abbrev n : ℕ
    n = x.table.n

    abbrev c : ℕ
    c = frame.header.cell

    abbrev from : ℕ
    from = frame.header.sender

    abbrev place : ℕ
    place = place_of x.table q c

    -- the entry that q comes to hold, and its view of the sender
    abbrev new : Entry
    new = after_it m x q frame

    abbrev view : Entry
    view = seen (entry_at (row_of x.table q c) from) (entry_of frame from)

    cell : c < x.table.cells
    cell = reads.for_us.within

    sender : from < n
    sender = subst (λ k. from < k) reads.for_us.same_n frame.header.sent

    -- nobody is sent what it sent itself
    another : q ≡ from → ⊥
    another = not_to_sender frame.header.sort frame.header.n from frame.header.to q frame.header.addressed reads.for_us.addressed

    shown : Past (T.ledger c) from (entry_of frame from)
    shown = ours_read m n x.table.cells T.ledger item ours q frame reads from sender

    is_own : own x.table q c ≡ latest (T.ledger c) q
    is_own = T.own q c here.participant cell here.up

    kept : Kept m.rule x.table.rule (HandedCode m (ev ∷ es) c) (saved (T.ledger c) q new)
    kept = kept_receive (wider m x es T ev c cell) q (before_it m x q frame) (sym is_own) shown

    proper : is_entry (entry_of frame from) ≡ true
    proper = all_entries frame.row.entries reads.proper from

    new_entry : is_entry new ≡ true
    new_entry = adopted_entry (before_it m x q frame) (entry_of frame from) (at_is_entry (row_of x.table q c) q) proper

    view_entry : is_entry view ≡ true
    view_entry = seen_entry (entry_at (row_of x.table q c) from) (entry_of frame from) (at_is_entry (row_of x.table q c) from) proper

    view_past : Past (T.ledger c) from view
    view_past = merged_past (wider m x es T ev c cell) (T.rows q c here.participant cell from sender) shown

    abbrev rows : List Row
    rows = renewed x.table.rows place from view

    all : length rows ≡ n * x.table.cells
    all = length-set x.table.rows _ _ ∙ T.all

    fit : AllFit n x.table.cells (grown T.ledger c q new) x.table.down (renewed rows place q new)
    fit =
        all_fit_saved n T.few T.ledger x.table.cells x.table.down rows all
        (all_fit_view n T.few T.ledger x.table.cells x.table.down x.table.rows T.all (fit_before m x es T ev) q c here.participant cell view
        view_entry from sender another view_past) q c here.participant cell new new_entry

    -- an entry that did not change is in the store as it was
    in_store : (after : S) → SavesChange m.store x.store place (before_it m x q frame) new after
        → (m.store.at after place ≡ new) × OnlyAt m.store place x.store after
    in_store after (inl same) = (
      ap (λ s. m.store.at s place) same.1 ∙ T.store q c here.participant cell ∙ sym is_own ∙ sym same.0,
      record { places = ap m.store.places same.1; others = λ j _. ap (λ s. m.store.at s j) same.1 },
    )
    in_store after (inr saves) = (saves.1.1, saves.1.2)

    acked : (t : Bool) (answer : ℕ) (after : P) → Acks m t (with_rows x.table (renewed rows place q new)) x.post q c from answer after
        → All (Ours m n x.table.cells (grown T.ledger c q new)) (m.post.items after)
    acked true answer after sends =
        ours_put m x es T ev q c new here.participant cell kept kinds posts (renewed rows place q new) x.post after Ack (single from) answer fit
        (ack_addressed n q from T.few here.participant sender (λ is. another (sym is))) sends
        (ours_after m x es T ev q c new here.participant cell kept)
    acked false answer after nothing =
        subst (λ p. All (Ours m n x.table.cells (grown T.ledger c q new)) (m.post.items p)) (sym nothing.1) (ours_after m x es T ev q c new here.participant cell kept)

    pub next_received : (r : Result ℕ Fault) (y : Board Q P S) → TakesOver m x q frame r y → Next m T ev y
    next_received (Err f) y h = next_stopped m x es T ev q c new here.participant cell kept f y h.1
    next_received (Ok answer) y h =
        let saves = in_store y.store h.saves in
        let acks = subst (λ t. Acks m (behind (entry_of frame q) new) t x.post q c from answer y.post) h.table h.acks in
        moved m x es T ev y (with_rows x.table (renewed rows place q new)) y.post h.table refl
        (next_saved m x es T ev x.table.down (renewed rows place q new) (length-set rows _ _ ∙ all) y.store y.post q c new cell kept saves.0 saves.1 fit
        (acked (behind (entry_of frame q) new) answer y.post acks))
