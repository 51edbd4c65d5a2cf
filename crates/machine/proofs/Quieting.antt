-- One half of a quiet round: a row goes to all others, and each of them answers. Assumes nothing.
use Rattle.std.proofs.Common.{◌≡◌, ℕ, ◌*◌, ◌<◌, ◌≤◌, true, false, cond, not, ◌&&◌, eqb, ltb, ◌⊎◌, List, [], ◌∷◌, ◌++◌, length, Ok, filter, sym, ap, ◌∙◌, subst, inl, inr, ⊎_elim, arith}
use Rattle.std.specs.List.{range_with_len, All}
use Rattle.std.proofs.lemmas.List.Elements.{All-nil, All-cons, All-append, All-weaker, All-map, filter_passes}
use Rattle.std.proofs.lemmas.Bool.{cases_eq, and_parts, and_from, ltb-true, lt-ltb, eq-eqb, ne_eqb, both_ways, not_from_true, not_from_false}
use Rattle.frames.specs.Layout.{Sound, entry_in}
use Rattle.frames.specs.Sorts.{well_addressed}
use Rattle.frames.specs.declared.sort.Sort.{Sort}
use Rattle.frames.specs.declared.sort.Sort.TheVariants.{Ack}
use Rattle.frames.proofs.Addresses.{ack_addressed}
use Rattle.kinds.specs.Meaning.{KindLaws}
use Rattle.ledger.proofs.Histories.{Under}
use Rattle.model.specs.Entries.{is_entry}
use Rattle.model.specs.Sets.{member, single, all_but}
use Rattle.model.proofs.Masks.{member-all_but}
use Rattle.model.specs.declared.entries.Entry.{Entry}
use Rattle.posts.specs.Meaning.{Item, addressed}
use Rattle.steps.specs.Entries.{seen, adopted, behind}
use Rattle.machine.specs.Board.{Makes, Table, Board, place_of, row_of}
use Rattle.machine.specs.Calls.{sent, Delivered}
use Rattle.machine.specs.Law.{Without, taken, owed, to_others, Quiet, done, took, refused}
use Rattle.machine.specs.Runs.{Event, deliver, Step}
use Rattle.machine.proofs.Due.{Among, among_left, among_right, among_weaker, among_map, among_kept, among_counting, all_without, among_without}
use Rattle.machine.proofs.Halves.{Half, not_behind, seen_over}
use Rattle.machine.proofs.Invariant.{Tied}
use Rattle.machine.proofs.Letters.{Letter, sent_entry, sent_letter, owed_to, heard_entry, heard_table, heard_owed, never_refused}
use Rattle.machine.proofs.RowChanges.{shown_entry, place_within, view, taking_over, announcing, announced_own, announced_beside, announced_others, took_own, took_sender, took_beside, took_others}

-- who is among all but p
other_than : (n p q : ℕ) → member (all_but n p) q ≡ true → (q < n) × (q ≡ p → ⊥)
other_than n p q is =
    let parts = and_parts (ltb q n && ltb q 8) (not (eqb q p)) (sym (member-all_but n p q) ∙ is) in
    (ltb-true q n (and_parts (ltb q n) (ltb q 8) parts.0).0, λ same. both_ways _ (not_from_true (eqb q p) (eq-eqb q p same)) parts.1)

one_of_others : (n p q : ℕ) → q < n → n ≤ 7 → (q ≡ p → ⊥) → member (all_but n p) q ≡ true
one_of_others n p q lt few other =
    member-all_but n p q ∙ and_from (ltb q n && ltb q 8) _ (and_from (ltb q n) _ (lt-ltb q n lt) (lt-ltb q 8 (omega arith))) (not_from_false (eqb q p) (ne_eqb q p other))

-- every step leaves a board tied
abbrev pub StaysTied : {V Q P S : Type 0} → Makes V Q P S → ℕ → ℕ → Q → Type 0
StaysTied {V} {Q} {P} {S} m n cells rule =
    (es : List (Event V)) (event : Event V) (x y : Board Q P S) → Tied m n cells rule es x → Step m x event y → Tied m n cells rule (event ∷ es) y

-- what the rows of cell c show after q took over what the sender's entry says
pub record Turned {Q : Type 0} (t u : Table Q) (c q s : ℕ) (e : Entry) : Type 0 where
  pub own : view u c q q ≡ adopted (view t c q q) e
  pub sender : view u c q s ≡ seen (view t c q s) e
  pub beside : (i : ℕ) → (i ≡ s → ⊥) → (i ≡ q → ⊥) → view u c q i ≡ view t c q i
  pub others : (r i : ℕ) → (r ≡ q → ⊥) → view u c r i ≡ view t c r i

module _ {V Q P S : Type 0} (m : Makes V Q P S) (kinds : KindLaws m.kind) (n cells : ℕ) (rule : Q) (c : ℕ) (cell : c < cells) where
  module _ {es : List (Event V)} {x : Board Q P S} (tied : Tied m n cells rule es x) where
    pub cell_within : c < x.table.cells
    cell_within = omega (arith, cell, tied.same_cells)

    pub row_within : (q : ℕ) → q < n → place_of x.table q c < length x.table.rows
    row_within q lt =
        let all : length x.table.rows ≡ n * x.table.cells = tied.all ∙ ap (λ k. n * k) (sym tied.same_cells) in
        subst (λ k. place_of x.table q c < k) (sym all) (place_within n x.table.cells q c lt cell_within)

    pub row_long : (q i : ℕ) → q < n → i < n → i < length (row_of x.table q c)
    row_long q i lt in_row = omega (arith, in_row, tied.shaped q c lt cell, tied.few)

    turned : (u : Table Q) (q s : ℕ) (e : Entry) → q < n → s < n → (s ≡ q → ⊥) → is_entry e ≡ true → u ≡ taking_over x.table q c s e → Turned x.table u c q s e
    turned u q s e lt from other ok is =
        let t = x.table in
        let within = row_within q lt in
        let long = row_long q q lt lt in
        record {
          own = ap (λ v. view v c q q) is ∙ took_own t q c cell_within within long s e ok;
          sender = ap (λ v. view v c q s) is ∙ took_sender t q c cell_within within long s e ok other (row_long q s lt from);
          beside = λ i a b. ap (λ v. view v c q i) is ∙ took_beside t q c cell_within within long s e ok i a b;
          others = λ r i a. ap (λ v. view v c r i) is ∙ took_others t q c cell_within within long s e ok r i a;
        }

    -- the header of a frame that a participant sends
    pub sound_heading : (sort : Sort) (q to : ℕ) → q < n → well_addressed sort x.table.n q to ≡ true
        → Sound (record { sort = sort; n = x.table.n; sender = q; kind = m.kind.number; to = to; cell = c })
    sound_heading sort q to lt right =
        record {
          some = omega (arith, tied.some, tied.same_n);
          few = omega (arith, tied.few, tied.same_n);
          sent = omega (arith, lt, tied.same_n);
          known = kinds.small;
          named = omega (arith, cell, tied.few_cells);
          addressed = right;
        }

    pub sent_shows : (sort : Sort) (q to i : ℕ) → q < n → i < n → entry_in (sent m.kind x.table.n sort q c to (row_of x.table q c)) i ≡ view x.table c q i
    sent_shows sort q to i lt in_row =
        sent_entry m.kind x.table.n sort q c to (row_of x.table q c) i (omega (arith, in_row, tied.same_n))
        (omega (arith, tied.same_n, tied.few, tied.shaped q c lt cell))

  module _ (p : ℕ) (participant : p < n) (e : Entry) (entry : is_entry e ≡ true) (Fresh Done Ready : Entry → Type 0) (half : Half e Fresh Done Ready) where
    -- p's row, to q that p shows as fresh
    pub record Ask (q : ℕ) (item : Item) : Type 0 where
      pub letter : Letter c q p item
      pub says : entry_in item.frame p ≡ e
      pub fresh : Fresh (entry_in item.frame q)

    -- the row of q, which is done, to p
    pub record Answer (q : ℕ) (item : Item) : Type 0 where
      pub letter : Letter c p q item
      pub done : Done (entry_in item.frame q)
      pub known : Under e (entry_in item.frame p)

    pub record Expected (item : Item) : Type 0 where
      pub other : ℕ
      pub within : other < n
      pub differs : other ≡ p → ⊥
      pub what : Ask other item ⊎ Answer other item

    -- q is asked yet, or is done and answers yet, or p shows it as done
    abbrev pub Stage : Board Q P S → List Item → ℕ → Type 0
    Stage x due q = Among (Ask q) due ⊎ (Done (view x.table c q q) × (Among (Answer q) due ⊎ Done (view x.table c p q)))

    pub record Midway (x : Board Q P S) (due : List Item) : Type 0 where
      pub up : (i : ℕ) → i < n → member x.table.down i ≡ false
      pub mine : view x.table c p p ≡ e
      pub own : (q : ℕ) → q < n → (q ≡ p → ⊥) → Ready (view x.table c q q)
      pub shown : (q : ℕ) → q < n → (q ≡ p → ⊥) → Ready (view x.table c p q)
      pub stage : (q : ℕ) → q < n → (q ≡ p → ⊥) → Stage x due q
      pub all : All Expected due

    module _ {es fs : List (Event V)} {x z : Board Q P S} (tied : Tied m n cells rule es x) (after : Tied m n cells rule fs z)
        {due left : List Item} (mid : Midway x due) {item : Item} (without : Without item due left)
        (r : ℕ) (in_row : r < n) (differs : r ≡ p → ⊥) where
      module _ (ask : Ask r item) (is : z.table ≡ taking_over x.table r c p e) where
        apart : p ≡ r → ⊥
        apart same = differs (sym same)

        now : Turned x.table z.table c r p e
        now = turned tied z.table r p e in_row participant apart entry is

        heard : Done (view z.table c r r)
        heard = subst Done (sym now.own) (half.hears _ (shown_entry (row_of x.table r c) r) (mid.own r in_row differs))

        abbrev owings : List Item
        owings = owed_to m z r c p (entry_in item.frame r)

        abbrev reply : Item
        reply = addressed (sent m.kind z.table.n Ack r c (single p) (row_of z.table r c)) p

        owes : owings ≡ reply ∷ []
        owes = ap (λ t. cond t (reply ∷ []) []) (half.late (entry_in item.frame r) _ ask.fresh heard)

        answer : Answer r reply
        answer =
            record {
              letter = sent_letter m.kind z.table.n Ack r c (single p) p (row_of z.table r c)
                  (sound_heading after Ack r (single p) in_row
                  (ack_addressed z.table.n r p (omega (arith, after.same_n, after.few)) (omega (arith, in_row, after.same_n)) (omega (arith, participant, after.same_n)) apart));
              done = subst Done (sym (sent_shows after Ack r (single p) r in_row in_row)) heard;
              known = subst (Under e) (sym (sent_shows after Ack r (single p) p in_row participant ∙ now.sender)) (seen_over (view x.table c r p) e);
            }

        answered : Among (Answer r) owings
        answered = subst (Among (Answer r)) (sym owes) (inl answer)

        expected : All Expected owings
        expected = subst (All Expected) (sym owes) (All-cons Expected _ [] (record { other = r; within = in_row; differs = differs; what = inr answer }) (All-nil Expected))

        elsewhere : (q : ℕ) → (q ≡ r → ⊥) → Stage x due q → Stage z (left ++ owings) q
        elsewhere q ne (inl h) =
            ⊎_elim (λ (a : Ask q item). absurd (ne (sym a.letter.to_is ∙ ask.letter.to_is))) (λ l. inl (among_left (Ask q) left owings l)) (among_without (Ask q) without h)
        elsewhere q ne (inr (d, inl h)) =
            inr (
              subst Done (sym (now.others q q ne)) d,
              ⊎_elim (λ (a : Answer q item). absurd (apart (sym a.letter.to_is ∙ ask.letter.to_is))) (λ l. inl (among_left (Answer q) left owings l)) (among_without (Answer q) without h),
            )
        elsewhere q ne (inr (d, inr h)) = inr (subst Done (sym (now.others q q ne)) d, inr (subst Done (sym (now.others p q apart)) h))

        asked : Midway z (left ++ owings)
        asked =
            record {
              up = λ i lt. ap (λ t. member t.down i) is ∙ mid.up i lt;
              mine = now.others p p apart ∙ mid.mine;
              own = λ q lt other. ⊎_elim (λ same. subst (λ j. Ready (view z.table c j j)) (sym same) (half.ready _ heard))
                  (λ ne. subst Ready (sym (now.others q q ne)) (mid.own q lt other)) (cases_eq q r);
              shown = λ q lt other. subst Ready (sym (now.others p q apart)) (mid.shown q lt other);
              stage = λ q lt other. ⊎_elim (λ same. subst (Stage z (left ++ owings)) (sym same) (inr (heard, inl (among_right (Answer r) left owings answered))))
                  (λ ne. elsewhere q ne (mid.stage q lt other)) (cases_eq q r);
              all = All-append Expected left owings (all_without Expected without mid.all).1 expected;
            }

      module _ (got : Answer r item) (ok : is_entry (entry_in item.frame r) ≡ true) (is : z.table ≡ taking_over x.table p c r (entry_in item.frame r)) where
        then : Turned x.table z.table c p r (entry_in item.frame r)
        then = turned tied z.table p r (entry_in item.frame r) participant in_row differs ok is

        unmoved : view z.table c p p ≡ e
        unmoved = then.own ∙ ap (λ o. adopted o (entry_in item.frame r)) mid.mine ∙ half.stays (entry_in item.frame r) got.done

        shows : Done (view z.table c p r)
        shows = subst Done (sym then.sender) (half.answers _ _ (shown_entry (row_of x.table p c) r) (mid.shown r in_row differs) got.done)

        abbrev none_owed : List Item
        none_owed = owed_to m z p c r (entry_in item.frame p)

        silent : none_owed ≡ []
        silent =
            let even : behind (entry_in item.frame p) (view z.table c p p) ≡ false = ap (behind (entry_in item.frame p)) unmoved ∙ not_behind e _ got.known in
            ap (λ t. cond t (addressed (sent m.kind z.table.n Ack p c (single r) (row_of z.table p c)) r ∷ []) []) even

        moves : (q : ℕ) → (q ≡ p → ⊥) → Stage x due q → Stage z (left ++ none_owed) q
        moves q other (inl h) =
            ⊎_elim (λ (a : Ask q item). absurd (other (sym a.letter.to_is ∙ got.letter.to_is))) (λ l. inl (among_left (Ask q) left none_owed l)) (among_without (Ask q) without h)
        moves q other (inr (d, inl h)) =
            inr (
              subst Done (sym (then.others q q other)) d,
              ⊎_elim (λ (a : Answer q item). inr (subst (λ j. Done (view z.table c p j)) (sym got.letter.sender_is ∙ a.letter.sender_is) shows))
                  (λ l. inl (among_left (Answer q) left none_owed l)) (among_without (Answer q) without h),
            )
        moves q other (inr (d, inr h)) =
            inr (
              subst Done (sym (then.others q q other)) d,
              ⊎_elim (λ same. inr (subst (λ j. Done (view z.table c p j)) (sym same) shows)) (λ ne. inr (subst Done (sym (then.beside q ne other)) h)) (cases_eq q r),
            )

        answered_to : Midway z (left ++ none_owed)
        answered_to =
            record {
              up = λ i lt. ap (λ t. member t.down i) is ∙ mid.up i lt;
              mine = unmoved;
              own = λ q lt other. subst Ready (sym (then.others q q other)) (mid.own q lt other);
              shown = λ q lt other. ⊎_elim (λ same. subst (λ j. Ready (view z.table c p j)) (sym same) (half.ready _ shows))
                  (λ ne. subst Ready (sym (then.beside q ne other)) (mid.shown q lt other)) (cases_eq q r);
              stage = λ q lt other. moves q other (mid.stage q lt other);
              all = All-append Expected left none_owed (all_without Expected without mid.all).1 (subst (All Expected) (sym silent) (All-nil Expected));
            }

    module _ {es fs : List (Event V)} {x z : Board Q P S} (tied : Tied m n cells rule es x) (after : Tied m n cells rule fs z) {q k kept : ℕ} {out filled : List ℕ}
        {due left : List Item} (mid : Midway x due) (d : Delivered m x q k out (Ok kept) z filled) (without : Without (taken m d) due left) where
      -- each delivery leaves the half midway
      pub step : Midway z (left ++ owed m z q d.receives.1.0)
      step = go (all_without Expected without mid.all).0
        where
          go : Expected (taken m d) → Midway z (left ++ owed m z q d.receives.1.0)
          go it = ⊎_elim to_other to_p it.what
            where
              to_other : Ask it.other (taken m d) → Midway z (left ++ owed m z q d.receives.1.0)
              to_other ask =
                  let is = heard_table m kinds n cells rule tied d c it.other p it.within participant ask.letter in
                  subst (λ l. Midway z (left ++ l)) (sym (heard_owed m kinds n cells rule tied d c it.other p it.within participant ask.letter))
                  (asked tied after mid without it.other it.within it.differs ask (is ∙ ap (taking_over x.table it.other c p) ask.says))

              to_p : Answer it.other (taken m d) → Midway z (left ++ owed m z q d.receives.1.0)
              to_p got =
                  let is = heard_table m kinds n cells rule tied d c p it.other participant it.within got.letter in
                  let ok = heard_entry m kinds n cells rule tied d c p it.other participant it.within got.letter in
                  subst (λ l. Midway z (left ++ l)) (sym (heard_owed m kinds n cells rule tied d c p it.other participant it.within got.letter))
                  (answered_to tied after mid without it.other it.within it.differs got ok is)

    -- it starts with an announcement of p
    module _ {es fs : List (Event V)} {x y : Board Q P S} (tied : Tied m n cells rule es x) (after : Tied m n cells rule fs y) (sort : Sort)
        (right : well_addressed sort y.table.n p (all_but y.table.n p) ≡ true) (is : y.table ≡ announcing x.table p c e)
        (up : (i : ℕ) → i < n → member x.table.down i ≡ false)
        (own_ready : (q : ℕ) → q < n → (q ≡ p → ⊥) → Ready (view x.table c q q))
        (all_fresh : (q : ℕ) → q < n → (q ≡ p → ⊥) → Fresh (view x.table c p q)) where
      abbrev letter_to : ℕ → Item
      letter_to = addressed (sent m.kind y.table.n sort p c (all_but y.table.n p) (row_of y.table p c))

      abbrev others : List ℕ
      others = filter (member (all_but y.table.n p)) (range_with_len 0 8)

      announced : view y.table c p p ≡ e
      announced = ap (λ t. view t c p p) is ∙ announced_own x.table p c (cell_within tied) (row_within tied p participant) (row_long tied p p participant participant) e entry

      beside : (q : ℕ) → (q ≡ p → ⊥) → view y.table c p q ≡ view x.table c p q
      beside q other =
          ap (λ t. view t c p q) is ∙ announced_beside x.table p c (cell_within tied) (row_within tied p participant) (row_long tied p p participant participant) e q other

      elsewhere_same : (q i : ℕ) → (q ≡ p → ⊥) → view y.table c q i ≡ view x.table c q i
      elsewhere_same q i other =
          ap (λ t. view t c q i) is ∙ announced_others x.table p c (cell_within tied) (row_within tied p participant) (row_long tied p p participant participant) e q i other

      asks : (q : ℕ) → q < n → (q ≡ p → ⊥) → Ask q (letter_to q)
      asks q lt other =
          record {
            letter = sent_letter m.kind y.table.n sort p c (all_but y.table.n p) q (row_of y.table p c) (sound_heading after sort p _ participant right);
            says = sent_shows after sort p (all_but y.table.n p) p participant participant ∙ announced;
            fresh = subst Fresh (sym (sent_shows after sort p (all_but y.table.n p) q participant lt ∙ beside q other)) (all_fresh q lt other);
          }

      expects : (q : ℕ) → member (all_but y.table.n p) q ≡ true → Expected (letter_to q)
      expects q chosen =
          let other = other_than y.table.n p q chosen in
          let lt : q < n = omega (arith, other.0, after.same_n) in
          record { other = q; within = lt; differs = other.1; what = inl (asks q lt other.1) }

      asked_all : (q : ℕ) → q < n → (q ≡ p → ⊥) → Among (Ask q) (to_others m y sort p c)
      asked_all q lt other =
          let chosen = one_of_others y.table.n p q (omega (arith, lt, after.same_n)) (omega (arith, after.few, after.same_n)) other in
          let here = among_kept (member (all_but y.table.n p)) q chosen (range_with_len 0 8) (among_counting 0 8 q (omega arith) (omega (arith, lt, after.few))) in
          among_map (Ask q) letter_to others (among_weaker (λ i. i ≡ q) (λ i. Ask q (letter_to i)) (λ i same. subst (λ j. Ask q (letter_to j)) (sym same) (asks q lt other)) others here)

      pub start : Midway y (to_others m y sort p c)
      start =
          record {
            up = λ i lt. ap (λ t. member t.down i) is ∙ up i lt;
            mine = announced;
            own = λ q lt other. subst Ready (sym (elsewhere_same q q other)) (own_ready q lt other);
            shown = λ q lt other. subst Ready (sym (beside q other)) (half.fresh _ (all_fresh q lt other));
            stage = λ q lt other. inl (asked_all q lt other);
            all = All-map Expected letter_to others
                (All-weaker (λ q. member (all_but y.table.n p) q ≡ true) (λ q. Expected (letter_to q)) expects others (filter_passes (member (all_but y.table.n p)) (range_with_len 0 8)));
          }

    -- and ends when nothing is due
    pub record Ended (y : Board Q P S) : Type 0 where
      pub events : List (Event V)
      pub tied : Tied m n cells rule events y
      pub up : (i : ℕ) → i < n → member y.table.down i ≡ false
      pub mine : view y.table c p p ≡ e
      pub own : (q : ℕ) → q < n → (q ≡ p → ⊥) → Done (view y.table c q q)
      pub shown : (q : ℕ) → q < n → (q ≡ p → ⊥) → Done (view y.table c p q)

    last_stage : (x : Board Q P S) (q : ℕ) → Stage x [] q → Done (view x.table c q q) × Done (view x.table c p q)
    last_stage x q (inl none) = absurd none
    last_stage x q (inr (d, inl none)) = absurd none
    last_stage x q (inr (d, inr h)) = (d, h)

    module _ (tied_step : StaysTied m n cells rule) where
      pub ends : {x y : Board Q P S} {due : List Item} → Quiet m x due y → (es : List (Event V)) → Tied m n cells rule es x → Midway x due → Ended y
      ends {x = x} done es tied mid =
          record {
            events = es;
            tied = tied;
            up = mid.up;
            mine = mid.mine;
            own = λ q lt other. (last_stage x q (mid.stage q lt other)).0;
            shown = λ q lt other. (last_stage x q (mid.stage q lt other)).1;
          }
      ends (took {q = q} {k = k} {kept = kept} {out = out} {filled = filled} d without counted rest) es tied mid =
          let after = tied_step es (deliver q k out (Ok kept) filled) _ _ tied (inl d) in
          ends rest (deliver q k out (Ok kept) filled ∷ es) after (step tied after mid d without)
      ends (refused d without saved rest) es tied mid = absurd (never_refused m kinds n cells rule tied d saved)
