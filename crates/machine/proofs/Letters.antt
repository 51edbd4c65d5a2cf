-- What a due item says, and that it is heard. Assumes nothing.
use Rattle.std.proofs.Common.{◌≡◌, ℕ, ◌<◌, ◌≤◌, true, cond, List, [], ◌∷◌, length, get_or, take, drop, pos, is_some, Some, None, Ok, Err, sym, refl, ap, ◌∙◌, subst, inl, inr, true≢false, arith}
use lib.Signed.{lt_z}
use Rattle.std.specs.Option.{option_map}
use Rattle.std.proofs.lemmas.List.Elements.{All-get_or, All-from_get_or}
use Rattle.std.proofs.lemmas.List.{take_at, get_or-take, get_or_default, length-take}
use Rattle.std.proofs.lemmas.Int.{ints, by_lt_z}
use Rattle.std.proofs.lemmas.Bool.{or_left, or_right}
use Rattle.frames.specs.Faults.{passed_up}
use Rattle.frames.specs.Layout.{Sound, heading_of, heading_in, entry_in}
use Rattle.frames.specs.Reading.{first_fault, valued, Complete, ForUs}
use Rattle.frames.specs.declared.reader.Frame.{Frame}
use Rattle.frames.specs.declared.sort.Sort.{Sort}
use Rattle.frames.specs.declared.sort.Sort.TheVariants.{Ack}
use Rattle.frames.proofs.ReadBack.{heading_back, entry_back, faultless}
use Rattle.frames.proofs.Readings.{row_at}
use Rattle.kinds.specs.Meaning.{KindMeaning, KindLaws}
use Rattle.ledger.specs.Growth.{Kept}
use Rattle.ledger.specs.Ledgers.{Ledger, Past}
use Rattle.ledger.proofs.Laws.{past_cast, cast_handed}
use Rattle.model.specs.Entries.{none, is_entry, clean}
use Rattle.model.specs.Sets.{single}
use Rattle.model.specs.declared.entries.Entry.{Entry}
use Rattle.model.specs.Faults.{number_of}
use Rattle.model.specs.declared.faults.Fault.{Fault}
use Rattle.model.specs.declared.rows.Row.{Row}
use Rattle.posts.specs.Meaning.{PostMeaning, Item, Taken, addressed, no_item}
use Rattle.steps.specs.Entries.{behind}
use Rattle.steps.specs.Rows.{entry_at}
use Rattle.machine.specs.Board.{Makes, Board, row_of, own}
use Rattle.machine.specs.Calls.{sent, entry_of, posted, Receives, Delivered}
use Rattle.machine.specs.Law.{taken, owed}
use Rattle.machine.specs.Runs.{Event}
use Rattle.machine.proofs.Ballots.{all_entries}
use Rattle.machine.proofs.Invariant.{Ours, HandedCode, Tied}
use Rattle.machine.proofs.RowChanges.{taking_over}

-- an item of cell c from one participant to another
pub record Letter (c to sender : ℕ) (item : Item) : Type 0 where
  pub to_is : item.to ≡ to
  pub sender_is : (heading_in item.frame).sender ≡ sender
  pub cell_is : (heading_in item.frame).cell ≡ c

-- a sent row is read as it was
pub sent_entry : {V : Type 0} (kind : KindMeaning V) (n : ℕ) (sort : Sort) (p c to : ℕ) (row : List Entry) (i : ℕ) → i < n → n ≤ length row
    → entry_in (sent kind n sort p c to row) i ≡ entry_at row i
sent_entry kind n sort p c to row i lt long =
    entry_back _ (take n row) i (omega (arith, length-take n row)) ∙ ap clean (get_or-take n row i none lt ∙ get_or_default row i none _ (omega arith))

pub sent_letter : {V : Type 0} (kind : KindMeaning V) (n : ℕ) (sort : Sort) (p c to q : ℕ) (row : List Entry)
    → Sound (record { sort = sort; n = n; sender = p; kind = kind.number; to = to; cell = c }) → Letter c q p (addressed (sent kind n sort p c to row) q)
sent_letter kind n sort p c to q row sound =
    let back = heading_back _ (take n row) sound in
    record { to_is = refl; sender_is = ap (λ h. h.sender) back; cell_is = ap (λ h. h.cell) back }

-- the ack that q owes the sender, which knows t of it
abbrev pub owed_to : {V Q P S : Type 0} → Makes V Q P S → Board Q P S → ℕ → ℕ → ℕ → Entry → List Item
owed_to m z q c s t = cond (behind t (own z.table q c)) (addressed (sent m.kind z.table.n Ack q c (single s) (row_of z.table q c)) s ∷ []) []

-- a frame that was taken opens the buffer
taken_bytes : {P : Type 0} (m : PostMeaning P) (before after : P) (q k long : ℕ) (out filled : List ℕ) (t : Taken m before q k out long after filled)
    → take long filled ≡ (get_or (m.items before) t.index no_item).frame
taken_bytes m before after q k long out filled t =
    let frame = (get_or (m.items before) t.index no_item).frame in
    ap (take long) t.opens ∙ take_at frame (drop long out) long (sym t.long)

module _ {V Q P S : Type 0} (m : Makes V Q P S) (kinds : KindLaws m.kind) (n cells : ℕ) (rule : Q) where
  -- a code that was voted for has a value
  pub past_valued : (es : List (Event V)) (c : ℕ) {i : ℕ} {L : Ledger} (e : Entry) → Kept m.rule rule (HandedCode m es c) L → Past L i e → valued m.kind e ≡ true
  past_valued es c e kept past =
      by_lt_z e.vote (pos 0) (λ low. or_left (lt_z e.vote (pos 0)) _ (grind (arith, ints)))
      (λ voted.
      let handed = cast_handed kept (past_cast past voted) in
      let has : m.kind.value e.code ≡ Some handed.0 = ap m.kind.value (sym handed.2) ∙ kinds.back handed.0 in
      or_right (lt_z e.vote (pos 0)) _ (ap is_some has))

  module _ {es : List (Event V)} {x : Board Q P S} (tied : Tied m n cells rule es x) where
    -- a waiting item reads without a fault
    pub reads_well : (k : ℕ) → k < length (m.post.items x.post)
        → first_fault m.kind (get_or (m.post.items x.post) k no_item).frame x.table.n x.table.cells (get_or (m.post.items x.post) k no_item).to ≡ None
    reads_well k lt =
        let item = get_or (m.post.items x.post) k no_item in
        let ours = All-get_or (Ours m n cells tied.ledger) (m.post.items x.post) k no_item lt tied.frames in
        let us : ForUs m.kind ours.heading n cells item.to
        = record { same_n = ours.same_n; same_kind = ours.same_kind; addressed = ours.addressee; within = ours.cell } in
        let whole : Complete m.kind n ours.entries
        = record {
          long = ours.long;
          counts =
              All-from_get_or (λ e. valued m.kind (clean e) ≡ true) ours.entries (record { promise = pos 0; vote = pos 0; code = 0 })
              (λ i lt. past_valued es ours.heading.cell (entry_at ours.entries i) (tied.kept _ ours.cell) (ours.past i (omega (arith, lt, ours.long))));
        } in
        (λ i. first_fault m.kind (ours.laid i) (tied.same_n i) (tied.same_cells i) item.to)
        ∙ faultless m.kind ours.heading ours.entries n cells item.to ours.sound us whole

    module _ {z : Board Q P S} {q k : ℕ} {out filled : List ℕ} where
      -- so no delivery of it is refused, where no save fails
      pub never_refused : {f : Fault} → Delivered m x q k out (Err f) z filled → (number_of f ≡ 12 → ⊥) → ⊥
      never_refused {f} d saved = go d.receives
        where
          reads : first_fault m.kind (take d.long filled) x.table.n x.table.cells q ≡ None
          reads =
              let to = sym d.takes.addressee in
              (λ i. first_fault m.kind (taken_bytes m.post x.post d.post q k d.long out filled d.takes i) x.table.n x.table.cells (to i))
              ∙ reads_well d.takes.index d.takes.within

          go : Receives m (posted m x d.post) q (take d.long filled) (Err f) z → ⊥
          go (inl r) = let no : Some f ≡ None = sym r.0 ∙ d.open_door in true≢false (ap is_some no)
          go (inr (_, inl r)) = let no : Some f ≡ None = sym r.0 ∙ ap (option_map passed_up) reads in true≢false (ap is_some no)
          go (inr (_, inr (frame, s, t))) = saved (ap number_of t.1.fault)

      module _ {kept : ℕ} (d : Delivered m x q k out (Ok kept) z filled) (c r s : ℕ) (to : r < n) (from : s < n) (letter : Letter c r s (taken m d)) where
        frame : Frame
        frame = d.receives.1.0

        bytes : take d.long filled ≡ (taken m d).frame
        bytes = taken_bytes m.post x.post d.post q k d.long out filled d.takes

        reader : q ≡ r
        reader = sym d.takes.addressee ∙ letter.to_is

        heading : heading_of frame.header ≡ heading_in (taken m d).frame
        unfolding frame
        heading = d.receives.1.1.heading ∙ ap heading_in bytes

        cell_is : frame.header.cell ≡ c
        cell_is = ap (λ h. h.cell) heading ∙ letter.cell_is

        sender_is : frame.header.sender ≡ s
        sender_is = ap (λ h. h.sender) heading ∙ letter.sender_is

        read : (i : ℕ) → i < n → entry_of frame i ≡ entry_in (taken m d).frame i
        unfolding frame
        read i lt =
            ap (λ (row : Row). get_or row.entries i (record { promise = pos 0; vote = pos 0; code = 0 })) d.receives.1.1.row
            ∙ row_at (take d.long filled) x.table.n i (record { promise = pos 0; vote = pos 0; code = 0 }) (omega (arith, lt, tied.same_n))
            ∙ ap (λ b. entry_in b i) bytes

        -- what it says of its sender is an entry
        pub heard_entry : is_entry (entry_in (taken m d).frame s) ≡ true
        unfolding frame
        heard_entry = subst (λ e. is_entry e ≡ true) (read s from) (all_entries frame.row.entries d.receives.1.1.proper s)

        -- and is taken over
        pub heard_table : z.table ≡ taking_over x.table r c s (entry_in (taken m d).frame s)
        unfolding frame
        heard_table =
            let says : entry_of frame frame.header.sender ≡ entry_in (taken m d).frame s = ap (entry_of frame) sender_is ∙ read s from in
            d.receives.1.2.table ∙ (λ i. taking_over x.table (reader i) (cell_is i) (sender_is i) (says i))

        pub heard_owed : owed m z q d.receives.1.0 ≡ owed_to m z r c s (entry_in (taken m d).frame r)
        unfolding frame
        heard_owed =
            let says : entry_of frame q ≡ entry_in (taken m d).frame r = ap (entry_of frame) reader ∙ read r to in
            λ i. owed_to m z (reader i) (cell_is i) (sender_is i) (says i)
