-- Every step of a run leaves the board tied to ledgers that went on. Assumes nothing.
use Rattle.std.proofs.Common.{◌≡◌, ℕ, ◌+◌, ◌*◌, ◌<◌, ◌≤◌, true, false, ◌⊎◌, List, ◌∷◌, get_or, take, drop, ℤ, ◌<ℤ◌, is_some, Ok, Err, Result, sym, refl, ap, ◌∙◌, subst, inl, inr, ⊎_elim, mul-le-mul_right, suc-mul, arith}
use Rattle.std.specs.List.{All}
use Rattle.std.proofs.lemmas.List.Elements.{All-get_or}
use Rattle.std.proofs.lemmas.List.{take_at}
use Rattle.std.proofs.lemmas.Int.{ints}
use Rattle.std.proofs.lemmas.Bool.{cases_eq, cases_lt, and_from, and_parts, and_cases, ltb-true, eq-eqb, ne_eqb, lt-ltb, not_from_false, true≢false}
use Rattle.frames.specs.declared.sort.Sort.TheVariants.{Prepare, Accept}
use Rattle.kinds.specs.Meaning.{KindLaws}
use Rattle.ledger.specs.Ledgers.{saved, still}
use Rattle.ledger.proofs.Histories.{onward_further}
use Rattle.ledger.specs.Growth.{owner, PastRow, Kept}
use Rattle.ledger.proofs.Growing.{kept_prepare, kept_accept}
use Rattle.ledger.proofs.Readings.{promised_enough, carries_carried}
use Rattle.model.proofs.Changes.{member-and}
use Rattle.model.proofs.Masks.{member-all_but}
use Rattle.model.specs.Entries.{is_entry}
use Rattle.model.specs.Sets.{member, without, all_but}
use Rattle.model.specs.declared.faults.Fault.{Fault}
use Rattle.model.specs.declared.rows.Row.{Row}
use Rattle.posts.specs.Meaning.{PostLaws, Item, no_item}
use Rattle.steps.proofs.Choosing.{ballot_same}
use Rattle.steps.specs.Entries.{promising, voting}
use Rattle.steps.specs.Rows.{entry_at, promised, Carries}
use Rattle.stores.specs.Meaning.{StoreLaws}
use Rattle.machine.specs.Board.{Makes, Board, Turn, row_of, row_at, own}
use Rattle.machine.specs.Calls.{Prepares, Votes, Receives, Delivered, Delivers, posted}
use Rattle.machine.specs.Runs.{Event, prepare, accept, abandon, deliver, restart, Does, Step, over, Run, start, more}
use Rattle.machine.specs.Starts.{Reloaded, Restarts}
use Rattle.machine.proofs.Ballots.{owned, promising_entry, voting_entry}
use Rattle.machine.proofs.Doors.{demanded, door_open, Preparing, prepare_open, Accepting, accept_open, owns_owner, does_nothing}
use Rattle.machine.proofs.Fitting.{Fits, AllFit, fits_down, fits_first}
use Rattle.machine.proofs.Invariant.{Ours, HandedCode, Tied}
use Rattle.machine.proofs.Receiving.{next_received}
use Rattle.machine.proofs.Tables.{place_below, at_is_entry}
use Rattle.machine.proofs.Tying.{Next, After, wider, fit_before, next_still, moved, unmoved, next_stopped, next_announced, changed}
use Rattle.machine.proofs.Waiting.{all_taken}

-- who is up after another came back was up before
up_before : (down p q : ℕ) → q < 8 → (q ≡ p → ⊥) → member (without down p) q ≡ false → member down q ≡ false
up_before down p q few other up =
    let stays : member (all_but 8 p) q ≡ true = member-all_but 8 p q ∙ and_from _ _ (and_from _ _ (lt-ltb q 8 few) (lt-ltb q 8 few)) (not_from_false _ (ne_eqb q p other)) in
    ⊎_elim (λ is. is) (λ out. absurd (true≢false (sym stays ∙ out))) (and_cases _ _ (sym (member-and down (all_but 8 p) q) ∙ up))

module _ {V Q P S : Type 0} (m : Makes V Q P S) (kinds : KindLaws m.kind) (posts : PostLaws m.post) (stores : StoreLaws m.store) where
  module _ (x : Board Q P S) (es : List (Event V)) (T : Tied m x.table.n x.table.cells x.table.rule es x) (ev : Event V) where
    module _ (p c : ℕ) (b : ℤ) where
      module _ (a : Preparing x.table p c b) where
        prepare_kept : Kept m.rule x.table.rule (HandedCode m (ev ∷ es) c) (saved (T.ledger c) p (promising (own x.table p c) b))
        prepare_kept =
            let here = a.here in
            let test = a.above in
            let above : (own x.table p c).promise <ℤ b = omega (arith, ints) in
            kept_prepare (wider m x es T ev c here.cell) p (own x.table p c) (sym (T.own p c here.door.participant here.cell here.door.up)) b above

        prepare_entry : is_entry (promising (own x.table p c) b) ≡ true
        prepare_entry = promising_entry (own x.table p c) b (at_is_entry (row_of x.table p c) p) (owned x.table.n p b a.mine) a.above

      next_prepare : (r : Result (Turn × ℕ) Fault) (y : Board Q P S) → Prepares m (λ t. t) x p c b r y → Next m T ev y
      next_prepare (Err f) y h =
          ⊎_elim (λ r. unmoved m x es T ev y r.1)
          (λ s. let a = prepare_open x.table p c b s.0 in
          next_stopped m x es T ev p c (promising (own x.table p c) b) a.here.door.participant a.here.cell (prepare_kept a) f y s.1) h
      next_prepare (Ok (round, answer)) y h =
          let a = prepare_open x.table p c b h.0 in
          next_announced m x es T ev p c (promising (own x.table p c) b) a.here.door.participant a.here.cell (prepare_kept a) kinds posts Prepare answer y
          (prepare_entry a) (eq-eqb _ _ refl) h.2

      module _ (wish : V) (given : HandedCode m (ev ∷ es) c (m.kind.code wish)) where
        has_value : (code : ℕ) → HandedCode m (ev ∷ es) c code → is_some (m.kind.value code) ≡ true
        has_value code h = ap (λ k. is_some (m.kind.value k)) (sym h.2) ∙ ap is_some (kinds.back h.0)

        module _ (a : Accepting x.table m.rule p c b) (v : V) (carries : Carries m.kind (row_of x.table p c) x.table.n wish v) where
          accept_kept : Kept m.rule x.table.rule (HandedCode m (ev ∷ es) c) (saved (T.ledger c) p (voting b (m.kind.code v)))
          accept_kept =
              let here = a.here in
              let row = row_of x.table p c in
              let kept = wider m x es T ev c here.cell in
              let size = sym T.size in
              let past = subst (λ k. PastRow (T.ledger c) k (entry_at row)) size (T.rows p c here.door.participant here.cell) in
              let mine = subst (λ k. owner k b ≡ p) size (owns_owner x.table.n p b a.mine) in
              let carried = carries_carried m.kind kinds kept has_value past given (subst (λ k. Carries m.kind row k wish v) size carries) in
              kept_accept kept p (own x.table p c) (sym (T.own p c here.door.participant here.cell here.door.up)) b mine
              (ballot_same (own x.table p c).promise b a.promise) a.unvoted (entry_at row) past
              (promised_enough row x.table.n b (promised row x.table.n b) (λ _. refl) a.enough) (m.kind.code v) carried

          accept_entry : is_entry (voting b (m.kind.code v)) ≡ true
          accept_entry = voting_entry b (m.kind.code v) (owned x.table.n p b a.mine) (kinds.fits v)

        next_vote : (r : Result (V × ℕ) Fault) (y : Board Q P S) → Votes m x p c b wish r y → Next m T ev y
        next_vote (Err f) y h =
            ⊎_elim (λ r. unmoved m x es T ev y r.1)
            (λ s. let a = accept_open x.table m.rule p c b s.0 in
            next_stopped m x es T ev p c (voting b (m.kind.code s.1.0)) a.here.door.participant a.here.cell (accept_kept a s.1.0 s.1.1) f y s.1.2) h
        next_vote (Ok (v, answer)) y h =
            let a = accept_open x.table m.rule p c b h.0 in
            next_announced m x es T ev p c (voting b (m.kind.code v)) a.here.door.participant a.here.cell (accept_kept a v h.1) kinds posts Accept answer y
            (accept_entry a v h.1) (eq-eqb _ _ refl) h.2

    -- rows that start again from the store
    fit_reloaded : (p : ℕ) (rows : List Row) → p < x.table.n → Reloaded m x.table.cells x.store p x.table.rows rows
        → AllFit x.table.n x.table.cells T.ledger (without x.table.down p) rows
    fit_reloaded p rows pn r q d qn dn = ⊎_elim mine other (cases_eq q p)
      where
        cells : ℕ
        cells = x.table.cells

        mine : q ≡ p → Fits x.table.n T.ledger (without x.table.down p) q d (row_at rows (q * cells + d))
        mine same =
            let kept = m.store.at x.store (p * cells + d) in
            let row = ap (λ (w : Row). w.entries) (r.own d dn) in
            let first = fits_first x.table.n T.few T.ledger (without x.table.down p) p d kept pn (stores.held x.store (p * cells + d)) (T.store p d pn dn) in
            subst (λ k. Fits x.table.n T.ledger (without x.table.down p) k d (row_at rows (k * cells + d))) (sym same)
            (subst (Fits x.table.n T.ledger (without x.table.down p) p d) (sym row) first)

        apart : (q ≡ p → ⊥) → (q * cells + d < p * cells) ⊎ (p * cells + cells ≤ q * cells + d)
        apart ne =
            ⊎_elim (λ less. inl (place_below cells q p d less dn))
            (λ least. let more : p < q = omega arith in inr (omega (arith, mul-le-mul_right cells more, suc-mul p cells))) (cases_lt q p)

        other : (q ≡ p → ⊥) → Fits x.table.n T.ledger (without x.table.down p) q d (row_at rows (q * cells + d))
        other ne =
            let row = ap (λ (w : Row). w.entries) (r.others (q * cells + d) (apart ne)) in
            let few = T.few in
            subst (Fits x.table.n T.ledger (without x.table.down p) q d) (sym row)
            (fits_down x.table.n T.few T.ledger x.table.down (without x.table.down p) q d (row_of x.table q d) (fit_before m x es T ev q d qn dn)
            (up_before x.table.down p q (omega arith) ne))

    next_restart : (p : ℕ) (r : Result (Unit {0}) Fault) (y : Board Q P S) → Restarts m x.table x.store p r y.table → y.store ≡ x.store → y.post ≡ x.post → Next m T ev y
    next_restart p (Err f) y h store post = unmoved m x es T ev y (λ i. record { table = h.1 i; store = store i; post = post i })
    next_restart p (Ok u) y h store post =
        let pn = ltb-true p x.table.n (and_parts _ _ (demanded _ _ h.0)).0 in
        let r = h.1.reloaded in
        moved m x es T ev y (changed m x.table (without x.table.down p) y.table.rows) x.post h.1.table post
        (next_still m x es T ev (without x.table.down p) y.table.rows (r.long ∙ T.all) y.store x.post (ap m.store.places store)
        (λ k. ap (λ s. m.store.at s k) store) (fit_reloaded p y.table.rows pn r) T.frames)

    -- the frames that are left after one was taken
    abbrev retied : (post : P) → All (Ours m x.table.n x.table.cells T.ledger) (m.post.items post)
        → Tied m x.table.n x.table.cells x.table.rule es (posted m x post)
    retied post frames =
        record {
          same_n = refl;
          same_cells = refl;
          same_rule = refl;
          size = T.size;
          some = T.some;
          few = T.few;
          few_cells = T.few_cells;
          all = T.all;
          places = T.places;
          shaped = T.shaped;
          ledger = T.ledger;
          kept = T.kept;
          store = T.store;
          own = T.own;
          rows = T.rows;
          frames = frames;
        }

  module _ (x : Board Q P S) (es : List (Event V)) (T : Tied m x.table.n x.table.cells x.table.rule es x) (ev : Event V) where
    next_receive : (q : ℕ) (item : Item) (r : Result ℕ Fault) (y : Board Q P S) → Ours m x.table.n x.table.cells T.ledger item
        → Receives m x q item.frame r y → Next m T ev y
    next_receive q item (Err f) y ours h =
        ⊎_elim (λ r. unmoved m x es T ev y r.1)
        (λ s. ⊎_elim (λ r. unmoved m x es T ev y r.1)
        (λ t. next_received m kinds posts x es T ev q (door_open x.table q s.0) item ours t.0 t.1 (Err f) y t.2) s.1) h
    next_receive q item (Ok answer) y ours h =
        next_received m kinds posts x es T ev q (door_open x.table q h.0) item ours h.1.0 h.1.1 (Ok answer) y h.1.2

  module _ (x : Board Q P S) (es : List (Event V)) (T : Tied m x.table.n x.table.cells x.table.rule es x) (ev : Event V) where
    next_delivered : (q k : ℕ) (out filled : List ℕ) (r : Result ℕ Fault) (y : Board Q P S) → Delivered m x q k out r y filled → Next m T ev y
    next_delivered q k out filled r y d =
        let item = get_or (m.post.items x.post) d.takes.index no_item in
        let ours = All-get_or (Ours m x.table.n x.table.cells T.ledger) (m.post.items x.post) d.takes.index no_item d.takes.within T.frames in
        let left = all_taken (Ours m x.table.n x.table.cells T.ledger) m.post x.post d.post q k d.long out filled d.takes T.frames in
        let bytes : take d.long filled ≡ item.frame = ap (take d.long) d.takes.opens ∙ take_at item.frame (drop d.long out) d.long (sym d.takes.long) in
        let N = next_receive (posted m x d.post) es (retied x es T ev d.post left) ev q item r y ours (subst (λ b. Receives m (posted m x d.post) q b r y) bytes d.receives) in
        record { tied = N.tied; on = N.on }

    next_deliver : (q k : ℕ) (out filled : List ℕ) (r : Result ℕ Fault) (y : Board Q P S) → Delivers m x q k out r y filled → Next m T ev y
    next_deliver q k out filled (Err f) y h =
        ⊎_elim (λ r. unmoved m x es T ev y r.0.1) (⊎_elim (λ r. unmoved m x es T ev y r.2) (next_delivered q k out filled (Err f) y)) h
    next_deliver q k out filled (Ok answer) y h = next_delivered q k out filled (Ok answer) y h

  module _ (x : Board Q P S) (es : List (Event V)) (T : Tied m x.table.n x.table.cells x.table.rule es x) where
    next_does : (ev : Event V) (y : Board Q P S) → Does m x ev y → Next m T ev y
    next_does (prepare p c b r) y h = next_prepare x es T (prepare p c b r) p c b r y h
    next_does (accept round v (Err (f, back))) y h =
        next_vote x es T (accept round v (Err (f, back))) round.p round.c round.b v (v, inl (refl, refl), refl) (Err f) y h.1
    next_does (accept round v (Ok answer)) y h =
        next_vote x es T (accept round v (Ok answer)) round.p round.c round.b v (v, inl (refl, refl), refl) (Ok answer) y h
    next_does (abandon round) y h = unmoved m x es T (abandon round) y h
    next_does (deliver q k out r filled) y h = next_deliver x es T (deliver q k out r filled) q k out filled r y h
    next_does (restart p r) y h = next_restart x es T (restart p r) p r y h.0 h.1 h.2

    next_step : (ev : Event V) (y : Board Q P S) → Step m x ev y → Next m T ev y
    next_step ev y (inl does) = next_does ev y does
    next_step ev y (inr a) =
        unmoved m x es T ev y (a.back ∙ ap (λ z. over m z x.table.rows) (does_nothing m (over m x a.rows) a.wrong ev a.after a.does))

  -- a step from a tied board leads to a tied one, with ledgers that went on
  pub tied_step : {n cells : ℕ} {rule : Q} {es : List (Event V)} {x y : Board Q P S} {e : Event V} (T : Tied m n cells rule es x) → Step m x e y → Next m T e y
  tied_step {n} {cells} {rule} {es} {x} {y} {e} T step =
      subst (λ k. (T : Tied m k cells rule es x) → Next m T e y) T.same_n
      (λ T. subst (λ k. (T : Tied m x.table.n k rule es x) → Next m T e y) T.same_cells
      (λ T. subst (λ r. (T : Tied m x.table.n x.table.cells r es x) → Next m T e y) T.same_rule (λ T. next_step x es T e y step) T) T) T

  -- and so does a run
  pub tied_run : {n cells : ℕ} {rule : Q} {es : List (Event V)} {x : Board Q P S} (T : Tied m n cells rule es x) {fs : List (Event V)} {y : Board Q P S} → Run m x fs y → After m T fs y
  tied_run T start = record { tied = T; on = λ _. still }
  tied_run T (more run step) =
      let before = tied_run T run in
      let next = tied_step before.tied step in
      record { tied = next.tied; on = λ c. onward_further (before.on c) (next.on c) }
