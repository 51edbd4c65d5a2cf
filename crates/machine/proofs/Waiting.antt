-- Waiting frames: what put and take do to them, and what a receiver reads in one. Assumes nothing.
use Rattle.std.proofs.Common.{◌≡◌, ℕ, suc, ◌<◌, ◌≤◌, Bool, true, List, length, get_or, take, pos, sym, refl, ap, ◌∙◌, subst, ⊎_elim, arith}
use Rattle.std.specs.List.{range_with_len, remove, All}
use Rattle.std.proofs.lemmas.List.Elements.{All-cons, All-head, All-tail, All-weaker, All-take, All-drop, All-map, All-append, filter_passes}
use Rattle.std.proofs.lemmas.List.{get_or_default, length-take-le}
use Rattle.frames.proofs.ReadBack.{heading_back, entry_back}
use Rattle.frames.proofs.Readings.{row_at}
use Rattle.frames.specs.Layout.{Heading, heading_in, entry_in}
use Rattle.frames.specs.Reading.{Spells}
use Rattle.frames.specs.Sorts.{well_addressed}
use Rattle.frames.specs.declared.reader.Frame.{Frame}
use Rattle.frames.specs.declared.sort.Sort.{Sort}
use Rattle.kinds.specs.Meaning.{KindLaws}
use Rattle.ledger.specs.Ledgers.{Ledger, Past, Onward}
use Rattle.ledger.proofs.Histories.{row_onward}
use Rattle.model.specs.Entries.{none, clean}
use Rattle.model.specs.Sets.{member}
use Rattle.model.specs.declared.entries.Entry.{Entry}
use Rattle.model.specs.declared.rows.Row.{Row}
use Rattle.posts.specs.Meaning.{PostMeaning, PostLaws, Item, addressed, Thinned, end, stays, goes, kept, Puts, Taken}
use Rattle.steps.specs.Rows.{entry_at}
use Rattle.machine.specs.Board.{Makes}
use Rattle.machine.specs.Calls.{sent, entry_of}
use Rattle.machine.proofs.Fitting.{Fits}
use Rattle.machine.proofs.Invariant.{Ours}
use Rattle.machine.proofs.Tables.{entry_taken}

module _ (P : Item → Type 0) where
  all_thinned : {left items : List Item} → Thinned left items → All P items → All P left
  all_thinned end h = h
  all_thinned (stays t) h = All-cons P _ _ (All-head P _ _ h) (all_thinned t (All-tail P _ _ h))
  all_thinned (goes t) h = all_thinned t (All-tail P _ _ h)

  module _ {T : Type 0} (m : PostMeaning T) where
    -- what holds of the items and of what is put holds after
    pub all_put : PostLaws m → (before after : T) (frame : List ℕ) (to : ℕ → Bool) (answer : ℕ) → Puts m before frame to answer after → All P (m.items before)
        → ((i : ℕ) → to i ≡ true → P (addressed frame i)) → All P (m.items after)
    all_put laws before after frame to answer puts old new =
        let passes = filter_passes (m.keeps before frame to) (range_with_len 0 8) in
        let each = All-weaker (λ i. m.keeps before frame to i ≡ true) (λ i. P (addressed frame i)) (λ i keeps. new i (laws.offered before frame to i keeps)) (kept m before frame to) passes in
        subst (All P) (sym puts.list) (All-append P puts.left _ (all_thinned puts.thinned old) (All-map P (addressed frame) (kept m before frame to) each))

    pub all_taken : (before after : T) (q k answer : ℕ) (out filled : List ℕ) → Taken m before q k out answer after filled → All P (m.items before) → All P (m.items after)
    all_taken before after q k answer out filled takes old = ⊎_elim (λ is. subst (All P) (sym is) old) (λ is. subst (All P) (sym is) less) takes.list
      where
        less : All P (remove (m.items before) takes.index)
        less = All-append P (take takes.index (m.items before)) _ (All-take P takes.index (m.items before) old) (All-drop P (suc takes.index) (m.items before) old)

module _ {V Q P S : Type 0} (m : Makes V Q P S) (n cells : ℕ) where
  pub ours_onward : (L M : ℕ → Ledger) → ((c : ℕ) → Onward (L c) (M c)) → (items : List Item) → All (Ours m n cells L) items → All (Ours m n cells M) items
  ours_onward L M on =
      All-weaker (Ours m n cells L) (Ours m n cells M)
      (λ item o. record {
        heading = o.heading;
        entries = o.entries;
        laid = o.laid;
        sound = o.sound;
        same_n = o.same_n;
        same_kind = o.same_kind;
        cell = o.cell;
        addressee = o.addressee;
        long = o.long;
        past = row_onward (on o.heading.cell) o.past;
      })

  -- a row that fits is sent as one of ours
  pub ours_sent : KindLaws m.kind → 2 ≤ n → n ≤ 7 → cells ≤ 64 → (L : ℕ → Ledger) (down : ℕ) (row : List Entry) (sort : Sort) (p c to i : ℕ) → p < n → c < cells
      → Fits n L down p c row → well_addressed sort n p to ≡ true → member to i ≡ true → Ours m n cells L (addressed (sent m.kind n sort p c to row) i)
  ours_sent laws some few few_cells L down row sort p c to i pn cn fits ok for =
      record {
        heading = record { sort = sort; n = n; sender = p; kind = m.kind.number; to = to; cell = c };
        entries = take n row;
        laid = refl;
        sound = record { some = some; few = few; sent = pn; known = laws.small; named = omega arith; addressed = ok };
        same_n = refl;
        same_kind = refl;
        cell = cn;
        addressee = for;
        long = length-take-le n row (omega (arith, fits.shaped));
        past = λ j jn. subst (Past (L c) j) (sym (entry_taken row n j jn)) (fits.past j jn);
      }

  module _ (L : ℕ → Ledger) (item : Item) (o : Ours m n cells L item) where
    -- what the first bytes and the entries of one of ours say
    pub ours_heading : heading_in item.frame ≡ o.heading
    ours_heading = ap heading_in o.laid ∙ heading_back o.heading o.entries o.sound

    pub ours_entry : (i : ℕ) → i < n → entry_in item.frame i ≡ entry_at o.entries i
    ours_entry i lt =
        let within : i < length o.entries = omega (arith, o.long) in
        ap (λ bytes. entry_in bytes i) o.laid ∙ entry_back o.heading o.entries i within ∙ ap clean (get_or_default o.entries i none (record { promise = pos 0; vote = pos 0; code = 0 }) within)

    -- whoever reads it sees entries that their owners held
    pub ours_read : (q : ℕ) (frame : Frame) → Spells m.kind item.frame n cells q frame → (i : ℕ) → i < n → Past (L frame.header.cell) i (entry_of frame i)
    ours_read q frame reads i lt =
        let cell = ap (λ (h : Heading). h.cell) (reads.heading ∙ ours_heading) in
        let row = ap (λ (r : Row). get_or r.entries i (record { promise = pos 0; vote = pos 0; code = 0 })) reads.row in
        let entry : entry_of frame i ≡ entry_at o.entries i = row ∙ row_at item.frame n i (record { promise = pos 0; vote = pos 0; code = 0 }) lt ∙ ours_entry i lt in
        subst (λ c. Past (L c) i (entry_of frame i)) (sym cell) (subst (Past (L o.heading.cell) i) (sym entry) (o.past i lt))
