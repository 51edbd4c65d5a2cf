-- No step makes a row show less. Assumes nothing.
use Rattle.std.proofs.Common.{◌≡◌, ℕ, zero, suc, true, ◌⊎◌, List, [], ◌∷◌, get_or, take, set, ℤ, pos, ◌≤ℤ◌, Ok, Err, Result, sym, refl, ap, ◌∙◌, subst, inl, inr, ⊎_elim, arith}
use Rattle.std.proofs.lemmas.Int.{ints}
use Rattle.frames.specs.Reading.{Spells}
use Rattle.frames.specs.declared.reader.Frame.{Frame}
use Rattle.frames.specs.declared.sort.Sort.{Sort}
use Rattle.frames.specs.declared.sort.Sort.TheVariants.{Prepare, Accept}
use Rattle.frames.proofs.Addresses.{not_to_sender}
use Rattle.kinds.specs.Meaning.{KindLaws}
use Rattle.model.specs.Entries.{is_entry, clean}
use Rattle.model.specs.declared.entries.Entry.{Entry}
use Rattle.model.specs.declared.faults.Fault.{Fault}
use Rattle.model.specs.declared.rows.Row.{Row}
use Rattle.model.proofs.Proper.{proper, clean_same}
use Rattle.steps.specs.Entries.{promising, voting, seen, adopted}
use Rattle.steps.specs.Rows.{entry_at}
use Rattle.steps.proofs.Choosing.{ballot_same}
use Rattle.steps.proofs.Growth.{seen_promise_grows, seen_vote_grows, adopted_promise_grows, adopted_vote_grows, seen_entry, adopted_entry}
use Rattle.machine.specs.Board.{Makes, Board, Turn, row_at, row_of, own, place_of, renewed}
use Rattle.machine.specs.Calls.{entry_of, Stopped, Announced, Prepares, Votes, Accepts, TookOver, Receives, posted, Delivers}
use Rattle.machine.specs.Law.{AtMost}
use Rattle.machine.specs.Showing.{ShowsNoLess, FromRow}
use Rattle.machine.proofs.Ballots.{owned, promising_entry, voting_entry, all_entries}
use Rattle.machine.proofs.Doors.{prepare_open, accept_open}
use Rattle.machine.proofs.Tables.{at_is_entry, entry_other}

at_most_itself : (e : Entry) → AtMost e e
at_most_itself e = record { promise = omega (arith, ints); vote = omega (arith, ints) }

at_most_further : (e f g : Entry) → AtMost e f → AtMost f g → AtMost e g
at_most_further e f g a b =
    let p = a.promise in let q = b.promise in let r = a.vote in let s = b.vote in
    record { promise = omega (arith, ints); vote = omega (arith, ints) }

-- what is read after a write is what was written, there, or what was there
set_either : {X : Type 0} (xs : List X) (i j : ℕ) (a d : X) → ((j ≡ i) × (get_or (set xs i a) j d ≡ a)) ⊎ (get_or (set xs i a) j d ≡ get_or xs j d)
set_either [] i j a d = inr refl
set_either (x ∷ xs) zero zero a d = inl (refl, refl)
set_either (x ∷ xs) zero (suc j) a d = inr refl
set_either (x ∷ xs) (suc i) zero a d = inr refl
set_either (x ∷ xs) (suc i) (suc j) a d = ⊎_elim (λ h. inl (ap suc h.0, h.1)) (λ h. inr h) (set_either xs i j a d)

same_rows : (before after : List Row) → after ≡ before → ShowsNoLess before after
same_rows before after is place i = subst (λ rows. AtMost (entry_at (row_at before place) i) (entry_at (row_at rows place) i)) (sym is) (at_most_itself (entry_at (row_at before place) i))

further : (a b c : List Row) → ShowsNoLess a b → ShowsNoLess b c → ShowsNoLess a c
further a b c f g place i = at_most_further (entry_at (row_at a place) i) (entry_at (row_at b place) i) (entry_at (row_at c place) i) (f place i) (g place i)

-- a larger entry in one place
renewed_grows : (rows : List Row) (place i : ℕ) (e : Entry) → is_entry e ≡ true → AtMost (entry_at (row_at rows place) i) e → ShowsNoLess rows (renewed rows place i e)
renewed_grows rows place i e ok most k j = ⊎_elim here (λ at. stays k at) (set_either rows place k row no_row)
  where
    no_row : Row
    no_row = record { entries = [] }

    row : Row
    row = record { entries = set (row_at rows place) i e }

    zeros : Entry
    zeros = record { promise = pos 0; vote = pos 0; code = 0 }

    stays : (k : ℕ) → get_or (set rows place row) k no_row ≡ get_or rows k no_row → AtMost (entry_at (row_at rows k) j) (entry_at (row_at (set rows place row) k) j)
    stays k at = subst (λ (r : Row). AtMost (entry_at (row_at rows k) j) (entry_at r.entries j)) (sym at) (at_most_itself (entry_at (row_at rows k) j))

    in_row : AtMost (entry_at (row_at rows place) j) (entry_at row.entries j)
    in_row =
        ⊎_elim (λ (h : (j ≡ i) × (get_or (set (row_at rows place) i e) j zeros ≡ e)).
        subst (λ x. AtMost (entry_at (row_at rows place) j) x) (sym (ap clean h.1 ∙ clean_same e ok)) (subst (λ k. AtMost (entry_at (row_at rows place) k) e) (sym h.0) most))
        (λ (h : get_or (set (row_at rows place) i e) j zeros ≡ get_or (row_at rows place) j zeros).
        subst (λ x. AtMost (entry_at (row_at rows place) j) (clean x)) (sym h) (at_most_itself (entry_at (row_at rows place) j)))
        (set_either (row_at rows place) i j e zeros)

    here : (k ≡ place) × (get_or (set rows place row) k no_row ≡ row) → AtMost (entry_at (row_at rows k) j) (entry_at (row_at (set rows place row) k) j)
    here h = subst (λ (r : Row). AtMost (entry_at (row_at rows k) j) (entry_at r.entries j)) (sym h.1) (subst (λ k'. AtMost (entry_at (row_at rows k') j) (entry_at row.entries j)) (sym h.0) in_row)

-- the entries beside it stand
beside : (rows : List Row) (place i j : ℕ) (e : Entry) → (j ≡ i → ⊥) → entry_at (row_at (renewed rows place i e) place) j ≡ entry_at (row_at rows place) j
beside rows place i j e ne =
    ⊎_elim (λ h. ap (λ (r : Row). entry_at r.entries j) h.1 ∙ entry_other (row_at rows place) i j e ne) (λ h. ap (λ (r : Row). entry_at r.entries j) h)
    (set_either rows place place (record { entries = set (row_at rows place) i e }) (record { entries = [] }))

module _ {V Q P S : Type 0} (m : Makes V Q P S) (kinds : KindLaws m.kind) where
  announced_grows : (x y : Board Q P S) (sort : Sort) (p c kept : ℕ) (e : Entry) → is_entry e ≡ true → AtMost (own x.table p c) e → Announced m x sort p c e kept y → ShowsNoLess x.table.rows y.table.rows
  announced_grows x y sort p c kept e ok most a =
      subst (ShowsNoLess x.table.rows) (sym (ap (λ t. t.rows) a.table)) (renewed_grows x.table.rows (place_of x.table p c) p e ok most)

  stopped_grows : (x y : Board Q P S) (p place : ℕ) (e : Entry) (f : Fault) → Stopped m x p place e f y → ShowsNoLess x.table.rows y.table.rows
  stopped_grows x y p place e f s = same_rows x.table.rows y.table.rows (ap (λ t. t.rows) s.table)

  refused_grows : (x y : Board Q P S) → y ≡ x → ShowsNoLess x.table.rows y.table.rows
  refused_grows x y is = same_rows x.table.rows y.table.rows (ap (λ z. z.table.rows) is)

  pub prepares_grow : {R : Type 0} (turn : R → Turn) (x y : Board Q P S) (p c : ℕ) (b : ℤ) (r : Result (R × ℕ) Fault) → Prepares m turn x p c b r y → ShowsNoLess x.table.rows y.table.rows
  prepares_grow turn x y p c b (Err f) h = ⊎_elim (λ g. refused_grows x y g.1) (λ g. stopped_grows x y p (place_of x.table p c) (promising (own x.table p c) b) f g.1) h
  prepares_grow turn x y p c b (Ok (round, kept)) h =
      let may = prepare_open x.table p c b h.0 in
      let ok = at_is_entry (row_of x.table p c) p in
      let above = may.above in
      announced_grows x y Prepare p c kept (promising (own x.table p c) b) (promising_entry (own x.table p c) b ok (owned x.table.n p b may.mine) above)
      (record { promise = grind (arith, ints); vote = omega (arith, ints) }) h.2

  pub votes_grow : (x y : Board Q P S) (p c : ℕ) (b : ℤ) (wish : V) (r : Result (V × ℕ) Fault) → Votes m x p c b wish r y → ShowsNoLess x.table.rows y.table.rows
  votes_grow x y p c b wish (Err f) h = ⊎_elim (λ g. refused_grows x y g.1) (λ g. stopped_grows x y p (place_of x.table p c) (voting b (m.kind.code g.1.0)) f g.1.2) h
  votes_grow x y p c b wish (Ok (v, kept)) h =
      let may = accept_open x.table m.rule p c b h.0 in
      let e = own x.table p c in
      let same : e.promise ≡ b = ballot_same e.promise b may.promise in
      let within = (proper e (at_is_entry (row_of x.table p c) p)).within in
      let lower : e.vote ≤ℤ b = subst (λ z. e.vote ≤ℤ z) same (grind (arith, ints)) in
      announced_grows x y Accept p c kept (voting b (m.kind.code v)) (voting_entry b (m.kind.code v) (owned x.table.n p b may.mine) (kinds.fits v))
      (record { promise = subst (λ z. e.promise ≤ℤ z) same (omega (arith, ints)); vote = lower }) h.2

  pub accepts_grow : {R : Type 0} (turn : R → Turn) (x y : Board Q P S) (round : R) (wish : V) (r : Result (V × ℕ) (Fault × R)) → Accepts m turn x round wish r y → ShowsNoLess x.table.rows y.table.rows
  accepts_grow turn x y round wish (Err (f, back)) h = votes_grow x y (turn round).p (turn round).c (turn round).b wish (Err f) h.1
  accepts_grow turn x y round wish (Ok answer) h = votes_grow x y (turn round).p (turn round).c (turn round).b wish (Ok answer) h

  -- an accept's answer is shown in its row, or was handed in
  pub from_row : {R : Type 0} (turn : R → Turn) (x y : Board Q P S) (round : R) (wish : V) (r : Result (V × ℕ) (Fault × R)) → Accepts m turn x round wish r y
      → FromRow m.kind (row_of x.table (turn round).p (turn round).c) x.table.n wish r
  from_row turn x y round wish (Err f) h = tt
  from_row turn x y round wish (Ok (v, kept)) h = ⊎_elim (λ g. inl (g.0, g.1.within, g.1.voted, g.2)) (λ g. inr g.1) h.1

  took_grows : (x y : Board Q P S) (bytes : List ℕ) (q kept : ℕ) (frame : Frame) → Spells m.kind bytes x.table.n x.table.cells q frame → TookOver m x q frame kept y → ShowsNoLess x.table.rows y.table.rows
  took_grows x y bytes q kept frame s t =
      let h = frame.header in
      let rows = x.table.rows in
      let place = place_of x.table q h.cell in
      let row = row_at rows place in
      let e = entry_of frame h.sender in
      let ok = all_entries frame.row.entries s.proper h.sender in
      let view = seen (entry_at row h.sender) e in
      let next = adopted (entry_at row q) e in
      let other : q ≡ h.sender → ⊥ = not_to_sender h.sort h.n h.sender h.to q h.addressed s.for_us.addressed in
      let first = renewed_grows rows place h.sender view (seen_entry (entry_at row h.sender) e (at_is_entry row h.sender) ok)
      (record { promise = seen_promise_grows (entry_at row h.sender) e; vote = seen_vote_grows (entry_at row h.sender) e }) in
      let second = renewed_grows (renewed rows place h.sender view) place q next (adopted_entry (entry_at row q) e (at_is_entry row q) ok)
      (subst (λ z. AtMost z next) (sym (beside rows place h.sender q view other))
      (record { promise = adopted_promise_grows (entry_at row q) e; vote = adopted_vote_grows (entry_at row q) e (at_is_entry row q) })) in
      subst (ShowsNoLess rows) (sym (ap (λ u. u.rows) t.table)) (further rows (renewed rows place h.sender view) (renewed (renewed rows place h.sender view) place q next) first second)

  pub receives_grow : (x y : Board Q P S) (bytes : List ℕ) (q : ℕ) (r : Result ℕ Fault) → Receives m x q bytes r y → ShowsNoLess x.table.rows y.table.rows
  receives_grow x y bytes q (Err f) h =
      ⊎_elim (λ g. refused_grows x y g.1)
      (λ g. ⊎_elim (λ k. refused_grows x y k.1) (λ k. stopped_grows x y q (place_of x.table q k.0.header.cell) _ f k.2.1) g.1) h
  receives_grow x y bytes q (Ok kept) h = took_grows x y bytes q kept h.1.0 h.1.1 h.1.2

  pub delivers_grow : (x y : Board Q P S) (q k : ℕ) (out filled : List ℕ) (r : Result ℕ Fault) → Delivers m x q k out r y filled → ShowsNoLess x.table.rows y.table.rows
  delivers_grow x y q k out filled (Err f) h =
      ⊎_elim (λ g. refused_grows x y g.0.1)
      (λ g. ⊎_elim (λ k. refused_grows x y k.2) (λ d. receives_grow (posted m x d.post) y (take d.long filled) q (Err f) d.receives) g) h
  delivers_grow x y q k out filled (Ok kept) d = receives_grow (posted m x d.post) y (take d.long filled) q (Ok kept) d.receives
