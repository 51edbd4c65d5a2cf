-- The board of a run stays tied to its ledgers: the parts of a step. Assumes nothing.
use Rattle.std.proofs.Common.{◌≡◌, ℕ, ◌+◌, ◌*◌, ◌<◌, true, false, ◌&&◌, eqb, ltb, List, ◌∷◌, ◌++◌, length, sym, refl, ap, ◌∙◌, subst, inr, ⊎_elim, arith}
use Rattle.std.specs.List.{All}
use Rattle.std.proofs.lemmas.List.{length-set}
use Rattle.std.proofs.lemmas.Bool.{cases_eq, or_parts, and_from, eq-eqb, lt-ltb, true≢false}
use Rattle.frames.specs.Sorts.{well_addressed}
use Rattle.frames.specs.declared.sort.Sort.{Sort}
use Rattle.kinds.specs.Meaning.{KindLaws}
use Rattle.ledger.specs.Ledgers.{Ledger, saved, Onward, still}
use Rattle.ledger.specs.Growth.{Kept}
use Rattle.ledger.proofs.Growing.{kept_wider}
use Rattle.model.proofs.Changes.{member-with}
use Rattle.model.specs.Entries.{is_entry}
use Rattle.model.specs.Sets.{member, with, all_but}
use Rattle.model.specs.declared.entries.Entry.{Entry}
use Rattle.model.specs.declared.faults.Fault.{Fault}
use Rattle.model.specs.declared.rows.Row.{Row}
use Rattle.posts.specs.Meaning.{PostLaws}
use Rattle.stores.specs.Meaning.{OnlyAt}
use Rattle.machine.specs.Board.{Makes, Table, Board, renewed, place_of, row_of, gone_down, with_rows}
use Rattle.machine.specs.Calls.{sent, Stopped, Announced, Sends}
use Rattle.machine.specs.Runs.{Event}
use Rattle.machine.proofs.Fitting.{grown, grown_onward, grown_kept, AllFit, fits_beside, fits_down, all_fit_saved, Keeps, keeps_saved}
use Rattle.machine.proofs.Invariant.{Ours, HandedCode, Tied}
use Rattle.machine.proofs.Waiting.{all_put, ours_onward, ours_sent}

-- who is up after p went down is another, and was up before
pub up_still : (down p q : ℕ) → p < 8 → member (with down p) q ≡ false → (member down q ≡ false) × (q ≡ p → ⊥)
up_still down p q few up =
    let both = or_parts (member down q) (eqb q p && ltb p 8) (sym (member-with down p q) ∙ up) in
    (both.0, λ same. true≢false (sym (and_from (eqb q p) (ltb p 8) (eq-eqb q p same) (lt-ltb p 8 few)) ∙ both.1))

module _ {V Q P S : Type 0} (m : Makes V Q P S) where
  -- a later board that is tied, to ledgers that went on from the former
  pub record Next {n cells : ℕ} {rule : Q} {es : List (Event V)} {x : Board Q P S} (T : Tied m n cells rule es x) (e : Event V) (y : Board Q P S) : Type 0 where
    pub tied : Tied m n cells rule (e ∷ es) y
    pub on : (c : ℕ) → Onward (T.ledger c) (tied.ledger c)

  -- the same after several steps
  pub record After {n cells : ℕ} {rule : Q} {es : List (Event V)} {x : Board Q P S} (T : Tied m n cells rule es x) (fs : List (Event V)) (y : Board Q P S) : Type 0 where
    pub tied : Tied m n cells rule (fs ++ es) y
    pub on : (c : ℕ) → Onward (T.ledger c) (tied.ledger c)

  -- the table of x with others down and other rows
  abbrev pub changed : Table Q → ℕ → List Row → Table Q
  changed t down rows = record { n = t.n; cells = t.cells; rule = t.rule; down = down; rows = rows }

  abbrev pub board : Table Q → S → P → Board Q P S
  board t store post = record { table = t; store = store; post = post }

  module _ (x : Board Q P S) (es : List (Event V)) (T : Tied m x.table.n x.table.cells x.table.rule es x) (ev : Event V) where
    -- what was handed in before still was
    pub wider : (c : ℕ) → c < x.table.cells → Kept m.rule x.table.rule (HandedCode m (ev ∷ es) c) (T.ledger c)
    wider c cn = kept_wider (λ code h. (h.0, inr h.1, h.2)) (T.kept c cn)

    pub fit_before : AllFit x.table.n x.table.cells T.ledger x.table.down x.table.rows
    fit_before p c pn cn = record { shaped = T.shaped p c pn cn; own = T.own p c pn cn; past = T.rows p c pn cn }

    module _ (down : ℕ) (rows : List Row) (all : length rows ≡ x.table.n * x.table.cells) (store : S) (post : P) where
      next : (L : ℕ → Ledger) → ((c : ℕ) → Onward (T.ledger c) (L c))
          → ((c : ℕ) → c < x.table.cells → Kept m.rule x.table.rule (HandedCode m (ev ∷ es) c) (L c))
          → m.store.places store ≡ m.store.places x.store → Keeps m.store x.table.n x.table.cells L store
          → AllFit x.table.n x.table.cells L down rows → All (Ours m x.table.n x.table.cells L) (m.post.items post)
          → Next T ev (board (changed x.table down rows) store post)
      next L on kept places keeps fit frames =
          record {
            tied =
                record {
                  same_n = refl;
                  same_cells = refl;
                  same_rule = refl;
                  size = T.size;
                  some = T.some;
                  few = T.few;
                  few_cells = T.few_cells;
                  all = all;
                  places = let enough = T.places in omega arith;
                  shaped = λ p c pn cn. (fit p c pn cn).shaped;
                  ledger = L;
                  kept = kept;
                  store = keeps;
                  own = λ p c pn cn. (fit p c pn cn).own;
                  rows = λ p c pn cn. (fit p c pn cn).past;
                  frames = frames;
                };
            on = on;
          }

      -- the ledgers stay
      pub next_still : m.store.places store ≡ m.store.places x.store → ((k : ℕ) → m.store.at store k ≡ m.store.at x.store k)
          → AllFit x.table.n x.table.cells T.ledger down rows → All (Ours m x.table.n x.table.cells T.ledger) (m.post.items post)
          → Next T ev (board (changed x.table down rows) store post)
      next_still places same = next T.ledger (λ _. still) wider places (λ i c lt cn. same (i * x.table.cells + c) ∙ T.store i c lt cn)

      -- participant p came to hold e in cell c
      pub next_saved : (p c : ℕ) (e : Entry) → c < x.table.cells → Kept m.rule x.table.rule (HandedCode m (ev ∷ es) c) (saved (T.ledger c) p e)
          → m.store.at store (place_of x.table p c) ≡ e → OnlyAt m.store (place_of x.table p c) x.store store
          → AllFit x.table.n x.table.cells (grown T.ledger c p e) down rows
          → All (Ours m x.table.n x.table.cells (grown T.ledger c p e)) (m.post.items post)
          → Next T ev (board (changed x.table down rows) store post)
      next_saved p c e cn kept at only =
          next (grown T.ledger c p e) (grown_onward T.ledger c p e) (grown_kept T.ledger c p e m.rule x.table.rule (HandedCode m (ev ∷ es)) x.table.cells wider kept)
          only.places (keeps_saved m.store x.table.n x.table.cells T.ledger x.store store p c e T.store cn at only)

    pub moved : (y : Board Q P S) (t : Table Q) (post : P) → y.table ≡ t → y.post ≡ post → Next T ev (board t y.store post) → Next T ev y
    moved y t post table posts = subst (Next T ev) (λ i. board (sym table i) y.store (sym posts i))

    pub unmoved : (y : Board Q P S) → y ≡ x → Next T ev y
    unmoved y is = subst (Next T ev) (sym is) (next_still x.table.down x.table.rows T.all x.store x.post refl (λ _. refl) fit_before T.frames)

    module _ (p c : ℕ) (e : Entry) (pn : p < x.table.n) (cn : c < x.table.cells)
        (kept : Kept m.rule x.table.rule (HandedCode m (ev ∷ es) c) (saved (T.ledger c) p e))
      where
        -- the frames that wait are ours after it too
        pub ours_after : All (Ours m x.table.n x.table.cells (grown T.ledger c p e)) (m.post.items x.post)
        ours_after = ours_onward m x.table.n x.table.cells T.ledger (grown T.ledger c p e) (grown_onward T.ledger c p e) (m.post.items x.post) T.frames

        -- a failed save: nobody saw the new entry, if it is kept
        pub next_stopped : (f : Fault) (y : Board Q P S) → Stopped m x p (place_of x.table p c) e f y → Next T ev y
        next_stopped f y s = moved y (gone_down x.table p) x.post s.table s.post (⊎_elim left came s.saves.2)
          where
            only : OnlyAt m.store (place_of x.table p c) x.store y.store
            only = s.saves.3

            few : p < 8
            few = let small = T.few in omega arith

            left : m.store.at y.store (place_of x.table p c) ≡ m.store.at x.store (place_of x.table p c)
                → Next T ev (board (gone_down x.table p) y.store x.post)
            left same =
                next_still (with x.table.down p) x.table.rows T.all y.store x.post only.places
                (λ k. ⊎_elim (λ here. ap (m.store.at y.store) here ∙ same ∙ ap (m.store.at x.store) (sym here)) (only.others k) (cases_eq k (place_of x.table p c)))
                (λ q d qn dn. fits_down x.table.n T.few T.ledger x.table.down (with x.table.down p) q d _ (fit_before q d qn dn) (λ up. (up_still x.table.down p q few up).0))
                T.frames

            came : m.store.at y.store (place_of x.table p c) ≡ e → Next T ev (board (gone_down x.table p) y.store x.post)
            came new =
                next_saved (with x.table.down p) x.table.rows T.all y.store x.post p c e cn kept new only
                (λ q d qn dn. fits_beside x.table.n T.few T.ledger x.table.down (with x.table.down p) q d c p _ e (fit_before q d qn dn)
                (λ up. let still_up = up_still x.table.down p q few up in (still_up.0, λ same _. still_up.1 same)))
                ours_after

        module _ (kinds : KindLaws m.kind) (posts : PostLaws m.post) where
          -- what is sent of a row that fits is ours
          pub ours_put : (rows : List Row) (before after : P) (sort : Sort) (to answer : ℕ) → AllFit x.table.n x.table.cells (grown T.ledger c p e) x.table.down rows
              → well_addressed sort x.table.n p to ≡ true → Sends m (with_rows x.table rows) before sort p c to answer after
              → All (Ours m x.table.n x.table.cells (grown T.ledger c p e)) (m.post.items before)
              → All (Ours m x.table.n x.table.cells (grown T.ledger c p e)) (m.post.items after)
          ours_put rows before after sort to answer fit ok sends old =
              all_put (Ours m x.table.n x.table.cells (grown T.ledger c p e)) m.post posts before after
              (sent m.kind x.table.n sort p c to (row_of (with_rows x.table rows) p c)) (member to) answer sends old
              (λ i for. ours_sent m x.table.n x.table.cells kinds T.some T.few T.few_cells (grown T.ledger c p e) x.table.down
              (row_of (with_rows x.table rows) p c) sort p c to i pn cn (fit p c pn cn) ok for)

          pub next_announced : (sort : Sort) (answer : ℕ) (y : Board Q P S) → is_entry e ≡ true → well_addressed sort x.table.n p (all_but x.table.n p) ≡ true
              → Announced m x sort p c e answer y → Next T ev y
          next_announced sort answer y ok goes a =
              let rows = renewed x.table.rows (place_of x.table p c) p e in
              let fit = all_fit_saved x.table.n T.few T.ledger x.table.cells x.table.down x.table.rows T.all fit_before p c pn cn e ok in
              let sends = subst (λ t. Sends m t x.post sort p c (all_but x.table.n p) answer y.post) a.table a.sends in
              moved y (with_rows x.table rows) y.post a.table refl
              (next_saved x.table.down rows (length-set x.table.rows _ _ ∙ T.all) y.store y.post p c e cn kept a.saves.1 a.saves.2 fit
              (ours_put rows x.post y.post sort (all_but x.table.n p) answer fit goes sends ours_after))
