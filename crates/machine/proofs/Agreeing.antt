-- A fresh register is tied to empty ledgers, and what that says of its runs: agreement, handed values, nothing ahead of the store. Assumes nothing.
use Rattle.std.proofs.Common.{get_or, ◌≡◌, ℕ, ◌+◌, ◌*◌, ◌<◌, ◌≤◌, true, List, [], ℤ, Some, sym, refl, ap, ◌∙◌, subst, append-nil}
use Rattle.std.specs.List.{All}
use Rattle.std.proofs.lemmas.List.Elements.{All-nil}
use Rattle.std.proofs.lemmas.Bool.{and_parts, eqb-true, leb-true}
use Rattle.frames.specs.Layout.{Heading, heading_in, entry_in}
use Rattle.kinds.specs.Meaning.{KindLaws}
use Rattle.ledger.specs.Growth.{PastRow, fresh}
use Rattle.ledger.specs.Ledgers.{empty}
use Rattle.ledger.proofs.Histories.{Under}
use Rattle.ledger.proofs.Laws.{latest_at_least}
use Rattle.ledger.proofs.Readings.{choice_handed, choices_agree}
use Rattle.model.specs.declared.entries.Entry.{Entry}
use Rattle.model.specs.declared.rows.Row.{Row}
use Rattle.posts.specs.Meaning.{PostLaws, Item}
use Rattle.quorums.specs.Meaning.{RuleLaws}
use Rattle.steps.specs.Rows.{entry_at, Choice}
use Rattle.stores.specs.Meaning.{StoreLaws, Fresh}
use Rattle.machine.specs.Board.{Makes, Table, Board, Turn, row_of}
use Rattle.machine.specs.Law.{Handed, AtMost, Behind, Reads, Clear, QuietRound, Law, stored}
use Rattle.machine.specs.Runs.{Event, Run}
use Rattle.machine.specs.Starts.{fits, Started}
use Rattle.machine.proofs.Doors.{cell_open}
use Rattle.machine.proofs.Fitting.{Fits, AllFit, fits_first}
use Rattle.machine.proofs.Invariant.{Ours, Tied}
use Rattle.machine.proofs.Stepping.{tied_run}
use Rattle.machine.proofs.Waiting.{ours_heading, ours_entry}

at_most : (e f kept : Entry) → Under e f → kept ≡ f → AtMost e kept
at_most e f kept under is = subst (AtMost e) (sym is) (record { promise = under.promise; vote = under.vote })

module _ {V Q P S : Type 0} (m : Makes V Q P S) where
  -- what set-up was checked for
  pub record Sized (n cells : ℕ) (rule : Q) (rows : ℕ) (store : S) : Type 0 where
    pub some : 2 ≤ n
    pub few : n ≤ 7
    pub some_cells : 1 ≤ cells
    pub few_cells : cells ≤ 64
    pub rows_are : rows ≡ n * cells
    pub size : m.rule.size rule ≡ n
    pub places : n * cells ≤ m.store.places store

  pub sized : (n cells : ℕ) (rule : Q) (rows : ℕ) (store : S) → fits m n cells rule rows store ≡ true → Sized n cells rule rows store
  sized n cells rule rows store is =
      let g = and_parts _ _ is in
      let f = and_parts _ _ g.0 in
      let e = and_parts _ _ f.0 in
      let d = and_parts _ _ e.0 in
      let c = and_parts _ _ d.0 in
      let b = and_parts _ _ c.0 in
      record {
        some = leb-true _ _ b.0;
        few = leb-true _ _ b.1;
        some_cells = leb-true _ _ c.1;
        few_cells = leb-true _ _ d.1;
        rows_are = eqb-true _ _ e.1;
        size = eqb-true _ _ f.1;
        places = leb-true _ _ g.1;
      }

  pub tied_start : StoreLaws m.store → (n cells : ℕ) (rule : Q) (rows : ℕ) (store : S) (post : P) (t : Table Q) → fits m n cells rule rows store ≡ true → Started m n cells rule store t
      → Fresh m.store store → m.post.items post ≡ [] → Tied m n cells rule [] (record { table = t; store = store; post = post })
  tied_start laws n cells rule rows store post t fit s nothing none = subst (λ u. Tied m n cells rule [] (record { table = u; store = store; post = post })) (sym s.table) tied
    where
      checked : Sized n cells rule rows store
      checked = sized n cells rule rows store fit

      all_fit : AllFit n cells (λ _. empty) 0 t.rows
      all_fit p c pn cn =
          subst (Fits n (λ _. empty) 0 p c) (sym (ap (λ (w : Row). w.entries) (s.own p c pn cn)))
          (fits_first n checked.few (λ _. empty) 0 p c (m.store.at store (p * cells + c)) pn (laws.held store (p * cells + c)) (nothing (p * cells + c)))

      tied : Tied m n cells rule [] (record { table = record { n = n; cells = cells; rule = rule; down = 0; rows = t.rows }; store = store; post = post })
      tied =
          record {
            same_n = refl;
            same_cells = refl;
            same_rule = refl;
            size = checked.size;
            some = checked.some;
            few = checked.few;
            few_cells = checked.few_cells;
            all = s.long;
            places = checked.places;
            shaped = λ p c pn cn. (all_fit p c pn cn).shaped;
            ledger = λ _. empty;
            kept = λ c cn. fresh;
            store = λ i c lt cn. nothing (i * cells + c);
            own = λ p c pn cn. (all_fit p c pn cn).own;
            rows = λ p c pn cn. (all_fit p c pn cn).past;
            frames = subst (All (Ours m n cells (λ _. empty))) (sym none) (All-nil _);
          }

  -- what a read-out of a tied board rests on
  record ShownAt {n cells : ℕ} {rule : Q} {es : List (Event V)} {y : Board Q P S} (T : Tied m n cells rule es y) (p c : ℕ) (b : ℤ) (v : V) : Type 0 where
    cell : c < cells
    past : PastRow (T.ledger c) (m.rule.size rule) (entry_at (row_of y.table p c))
    choice : Choice m.kind (m.rule.chooses rule) (row_of y.table p c) (m.rule.size rule) b v

  shown_at : {n cells : ℕ} {rule : Q} {es : List (Event V)} {y : Board Q P S} (T : Tied m n cells rule es y) (p c : ℕ) (b : ℤ) (v : V) → Reads m y p c b v → ShownAt T p c b v
  shown_at {n} {cells} {rule} {es} {y} T p c b v reads =
      let door = cell_open y.table p c reads.0 in
      let row = row_of y.table p c in
      let pn : p < n = subst (λ k. p < k) T.same_n door.door.participant in
      let cn : c < cells = subst (λ k. c < k) T.same_cells door.cell in
      let size = T.same_n ∙ sym T.size in
      record {
        cell = cn;
        past = subst (λ k. PastRow (T.ledger c) k (entry_at row)) (sym T.size) (T.rows p c pn cn);
        choice = subst (λ k. Choice m.kind (m.rule.chooses rule) row k b v) size (subst (λ r. Choice m.kind (m.rule.chooses r) row y.table.n b v) T.same_rule reads.1);
      }

  -- nothing that a tied board shows is ahead of its store
  pub tied_behind : {n cells : ℕ} {rule : Q} {es : List (Event V)} {y : Board Q P S} → Tied m n cells rule es y → Behind m y
  tied_behind {n} {cells} {rule} {es} {y} T =
      record {
        rows = λ p c i pn cn lt.
            let d = subst (λ k. c < k) T.same_cells cn in
            let j = subst (λ k. i < k) T.same_n lt in
            at_most _ _ _ (latest_at_least (T.kept c d) (T.rows p c (subst (λ k. p < k) T.same_n pn) d i j)) (T.store i c j d);
        frames = λ k d in_post i lt. framed (get_or (m.post.items y.post) k d) (T.frames k d in_post) i (subst (λ j. i < j) T.same_n lt);
      }
    where
      framed : (item : Item) → Ours m n cells T.ledger item → (i : ℕ) → i < n → AtMost (entry_in item.frame i) (stored m y i (heading_in item.frame).cell)
      framed item o i lt =
          let cell = ap (λ (h : Heading). h.cell) (ours_heading m n cells T.ledger item o) in
          let entry = ours_entry m n cells T.ledger item o i lt in
          let c = o.heading.cell in
          subst (λ d. AtMost (entry_in item.frame i) (stored m y i d)) (sym cell)
          (subst (λ e. AtMost e (stored m y i c)) (sym entry) (at_most _ _ _ (latest_at_least (T.kept c o.cell) (o.past i lt)) (T.store i c lt o.cell)))

  module _ (kinds : KindLaws m.kind) (rules : RuleLaws m.rule) (posts : PostLaws m.post) (stores : StoreLaws m.store) where
    -- a run from a tied fresh board
    pub tied_from : {n cells : ℕ} {rule : Q} {x : Board Q P S} → Tied m n cells rule [] x → {es : List (Event V)} {y : Board Q P S} → Run m x es y → Tied m n cells rule es y
    tied_from {n} {cells} {rule} T {es} {y} run = subst (λ l. Tied m n cells rule l y) (append-nil es) (tied_run m kinds posts stores T run).tied

    module _ {n cells : ℕ} {rule : Q} {x : Board Q P S} (T : Tied m n cells rule [] x) where
      pub runs_agree : {es fs : List (Event V)} {y z : Board Q P S} (p q c : ℕ) (a b : ℤ) (v w : V)
          → Run m x es y → Run m y fs z → Reads m y p c a v → Reads m z q c b w → v ≡ w
      runs_agree p q c a b v w first later r s =
          let before = tied_from T first in
          let after = tied_run m kinds posts stores before later in
          let one = shown_at before p c a v r in
          let two = shown_at after.tied q c b w s in
          choices_agree m.kind kinds (after.tied.kept c two.cell) rules (after.on c) one.past one.choice two.past two.choice

      pub runs_hand : {es : List (Event V)} {y : Board Q P S} (p c : ℕ) (b : ℤ) (v : V) → Run m x es y → Reads m y p c b v → Handed es c v
      runs_hand {es} p c b v run r =
          let tied = tied_from T run in
          let shown = shown_at tied p c b v r in
          let given = choice_handed m.kind kinds (tied.kept c shown.cell) shown.past shown.choice in
          let there = kinds.back given.0 in
          let here = kinds.back v in
          let is : Some given.0 ≡ Some v = sym there ∙ ap m.kind.value given.2 ∙ here in
          let same : given.0 ≡ v = cc in
          subst (Handed es c) same given.1

      pub runs_behind : {es : List (Event V)} {y : Board Q P S} → Run m x es y → Behind m y
      runs_behind run = tied_behind (tied_from T run)

      -- with quiet rounds that decide, this is the law
      pub lawful : ((es : List (Event V)) (y : Board Q P S) (round : Turn) → Run m x es y → Clear m y round.p round.c round.b → QuietRound m y round) → Law m x
      lawful decides = record { agreed = runs_agree; handed = runs_hand; behind = runs_behind; decides = decides _ _ }
