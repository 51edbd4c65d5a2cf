-- The two worked runs, call by call. Assumes nothing.
use Rattle.std.proofs.Common.{◌≡◌, ℕ, zero, suc, ◌+◌, ◌-◌, ◌*◌, ◌<◌, ◌≤◌, Bool, true, false, ◌&&◌, eqb, ltb, ◌⊎◌, List, [], ◌∷◌, ◌++◌, reverse, length, get_or, take, drop, ℤ, pos, negsuc, ◌≤ℤ◌, ◌<ℤ◌, Some, None, Ok, Err, filter, sym, refl, ap, ◌∙◌, subst, inl, inr, arith}
use lib.Count.{ones}
use Rattle.std.specs.List.{range_with_len, All}
use Rattle.std.proofs.lemmas.List.Elements.{All-nil, All-cons}
use Rattle.std.proofs.lemmas.List.{take_at}
use Rattle.std.proofs.lemmas.Int.{ints}
use Rattle.std.proofs.lemmas.Bool.{ltb-true, and_parts, eq-eqb, ne_eqb}
use Rattle.frames.specs.Layout.{Heading, Sound}
use Rattle.frames.specs.Reading.{Spells, ForUs, valued}
use Rattle.frames.specs.Sorts.{well_addressed}
use Rattle.frames.specs.declared.reader.Frame.{Frame}
use Rattle.frames.specs.declared.sort.Sort.{Sort}
use Rattle.frames.specs.declared.sort.Sort.TheVariants.{Prepare, Accept, Ack}
use Rattle.kinds.specs.ValuesLemmas.{glyph_at_number, number_of_glyph_at}
use Rattle.kinds.specs.Glyphs.{glyph_numbers}
use Rattle.kinds.specs.Meaning.{KindLaws}
use Rattle.kinds.specs.declared.glyph.Glyph.{Glyph}
use Rattle.ledger.specs.Examples.{three}
use Rattle.model.specs.Bytes.{raised}
use Rattle.model.specs.Entries.{none, is_entry}
use Rattle.model.specs.declared.faults.Fault.TheVariants.{SaveFailed}
use Rattle.model.specs.Sets.{member, all_but, single}
use Rattle.model.specs.declared.entries.Entry.{Entry}
use Rattle.model.specs.declared.rows.Row.{Row}
use Rattle.posts.specs.Meaning.{Item, Puts, sendable, addressed, no_item, waiting}
use Rattle.quorums.specs.Halves.{majority_lawful}
use Rattle.quorums.specs.Majorities.{majority}
use Rattle.quorums.specs.declared.majority.Majority.{Majority}
use Rattle.steps.specs.Rows.{same_ballot, vote_at, value_at, Leader, Nobody, voted, Choice, Shows}
use Rattle.stores.specs.Meaning.{Fresh}
use Rattle.machine.specs.Board.{Board}
use Rattle.machine.specs.Calls.{TookOver, posted}
use Rattle.machine.specs.Refusals.{door}
use Rattle.machine.specs.Runs.{prepare, accept, restart, Run, start, more, Does}
use Rattle.machine.specs.Starts.{first_row, row_in, Started}
use Rattle.machine.specs.Worked.{Pile, pile_means, Slate, slate_means, plain, start as fresh_board, sixty_eight, ninety_nine, turn, of_three, buffer, delivery, asks, votes, asking, choosing, failing, asks_again, promises_again, votes_again, carrying, Worked}
use Rattle.machine.proofs.Lawful.{fresh_lawful}
use Rattle.machine.proofs.Plain.{laid_out_sendable, pile_lawful, put_on, puts_on, taken_off, slate_lawful, saves_well, saves_badly, frame_of, spells_well}
use Rattle.machine.proofs.Specimens.{passing}

abbrev Plain : Type 0
Plain = Board Majority Pile Slate

abbrev row : Entry → Entry → Entry → Row
row a b c = record { entries = a ∷ b ∷ c ∷ none ∷ none ∷ none ∷ none ∷ [] }

-- participant 2 hears nothing throughout
abbrev rows : Row → Row → List Row
rows first second = first ∷ second ∷ row none none none ∷ []

abbrev slate : Entry → Entry → ℕ → Slate
slate first second until = record { entries = first ∷ second ∷ none ∷ []; until = until }

abbrev board : ℕ → List Row → Slate → Pile → Plain
board down rows store post = record { table = record { n = 3; cells = 1; rule = three; down = down; rows = rows }; store = store; post = post }

abbrev heading : Sort → ℕ → ℕ → Heading
heading sort p to = record { sort = sort; n = 3; sender = p; kind = 1; to = to; cell = 0 }

can_go : (sort : Sort) (p to : ℕ) (a b c : Entry) → sendable (of_three sort p to a b c) ≡ true
can_go sort p to a b c = laid_out_sendable (heading sort p to) (a ∷ b ∷ c ∷ []) (omega arith)

-- the pile after participant p sent these three entries
abbrev piled : Pile → Sort → ℕ → ℕ → Entry → Entry → Entry → Pile
piled post sort p to a b c = put_on post (of_three sort p to a b c) (member to) (can_go sort p to a b c)

-- an entry whose vote has a value
abbrev counts : Entry → Bool
counts e = is_entry e && valued glyph_numbers e

all_three : (P : Entry → Type 0) {a b c : Entry} → P a → P b → P c → All P (a ∷ b ∷ c ∷ [])
all_three P {a} {b} {c} f g h = All-cons P a (b ∷ c ∷ []) f (All-cons P b (c ∷ []) g (All-cons P c [] h (All-nil P)))

module _ (sort : Sort) (s to : ℕ) (small : ltb s 3 ≡ true) (ok : well_addressed sort 3 s to ≡ true) (a b c : Entry) where
  abbrev sound : Sound (heading sort s to)
  sound = record { some = omega arith; few = omega arith; sent = ltb-true s 3 small; known = omega arith; named = omega arith; addressed = ok }

  abbrev frame : List ℕ
  frame = of_three sort s to a b c

  abbrev letter : Frame
  letter = frame_of (heading sort s to) sound (a ∷ b ∷ c ∷ [])

  -- the first item that waits for q is delivered, and its frame taken over
  hears : (x : Plain) (q index kept : ℕ) (y : Plain) → 3 ≡ x.table.n → ltb 0 x.table.cells ≡ true → door x.table q ≡ None
      → ltb index (length x.post.items) ≡ true → get_or x.post.items index no_item ≡ addressed frame q → waiting q (take index x.post.items) ≡ 0
      → member to q ≡ true → counts a ≡ true → counts b ≡ true → counts c ≡ true
      → TookOver plain (posted plain x (taken_off x.post index)) q letter kept y → Does plain x (delivery q frame kept) y
  hears x q index kept y same_n one opens within item earlier for first second third took =
      let us : ForUs glyph_numbers (heading sort s to) x.table.n x.table.cells q
      = record { same_n = same_n; same_kind = refl; addressed = for; within = ltb-true 0 x.table.cells one } in
      let f = and_parts (is_entry a) (valued glyph_numbers a) first in
      let g = and_parts (is_entry b) (valued glyph_numbers b) second in
      let h = and_parts (is_entry c) (valued glyph_numbers c) third in
      let spells = spells_well glyph_numbers (heading sort s to) (a ∷ b ∷ c ∷ []) x.table.n x.table.cells q sound us same_n (all_three (λ e. is_entry e ≡ true) f.0 g.0 h.0) (all_three (λ e. valued glyph_numbers e ≡ true) f.1 g.1 h.1) in
      let opened = take_at frame (drop (length frame) buffer) (length frame) refl in
      record {
        open_door = opens;
        long = length frame;
        post = taken_off x.post index;
        takes = record {
          index = index;
          within = ltb-true index (length x.post.items) within;
          addressee = ap (λ (i : Item). i.to) item;
          earlier = earlier;
          long = ap (λ (i : Item). length i.frame) (sym item);
          opens = ap (λ (i : Item). i.frame ++ drop (length frame) buffer) (sym item);
          list = inr refl;
        };
        receives = (opens, (letter, subst (λ bytes. Spells glyph_numbers bytes x.table.n x.table.cells q letter) (sym opened) spells, took));
      }

sends : (post : Pile) (sort : Sort) (p to : ℕ) (a b c : Entry)
    → Puts pile_means post (of_three sort p to a b c) (member to) (length (filter (member to) (range_with_len 0 8))) (piled post sort p to a b c)
sends post sort p to a b c = puts_on post (of_three sort p to a b c) (member to) (can_go sort p to a b c)

-- one after another
each_of_three : (P : ℕ → Type 0) → P 0 → P 1 → P 2 → (j : ℕ) → j < 3 → P j
each_of_three P a b c zero lt = a
each_of_three P a b c (suc zero) lt = b
each_of_three P a b c (suc (suc zero)) lt = c
each_of_three P a b c (suc (suc (suc j))) lt = absurd (omega arith)

other_promise : {e old : Entry} → (raised e.promise ≡ raised old.promise → ⊥) → e ≡ old → ⊥
other_promise ne is = ne (ap (λ (e : Entry). raised e.promise) is)

other_vote : {e old : Entry} → (raised e.vote ≡ raised old.vote → ⊥) → e ≡ old → ⊥
other_vote ne is = ne (ap (λ (e : Entry). raised e.vote) is)

-- the boards of the first ballot: 0 has asked, 1 has promised, and 0 has heard of that
abbrev asked : ℕ → Plain
asked until =
    board 0 (rows (row asks none none) (row none none none)) (slate asks none (until - 1)) (piled (fresh_board until).post Prepare 0 (all_but 3 0) asks none none)

abbrev answered : ℕ → Plain
answered until =
    board 0 (rows (row asks none none) (row asks asks none)) (slate asks asks (until - 1 - 1)) (piled (taken_off (asked until).post 0) Ack 1 (single 0) asks asks none)

abbrev promised : ℕ → Plain
promised until = board 0 (rows (row asks asks none) (row asks asks none)) (answered until).store (taken_off (answered until).post 1)

module _ (until : ℕ) (first : eqb until 1 ≡ false) (second : eqb (until - 1) 1 ≡ false) where
  asks_first : Does plain (fresh_board until) (prepare 0 0 (pos 3) (Ok (turn 0 3, 2))) (asked until)
  asks_first = (
    refl,
    refl,
    record { saves = saves_well (fresh_board until).store 0 asks refl refl first; table = refl; sends = sends (fresh_board until).post Prepare 0 (all_but 3 0) asks none none },
  )

  answers_first : Does plain (asked until) (delivery 1 (of_three Prepare 0 (all_but 3 0) asks none none) 1) (answered until)
  answers_first =
      hears Prepare 0 (all_but 3 0) refl refl asks none none (asked until) 1 0 1 (answered until) refl refl refl refl refl refl refl refl refl refl
      (record {
        saves = inr (other_promise (λ is. omega arith), saves_well (asked until).store 1 asks refl refl second);
        table = refl;
        acks = sends (taken_off (asked until).post 0) Ack 1 (single 0) asks asks none;
      })

  hears_first : Does plain (answered until) (delivery 0 (of_three Ack 1 (single 0) asks asks none) 0) (promised until)
  unfolding ones
  hears_first =
      hears Ack 1 (single 0) refl refl asks asks none (answered until) 0 1 0 (promised until) refl refl refl refl refl refl refl refl refl refl
      (record { saves = inl (refl, refl); table = refl; acks = (refl, refl) })

  asking_run : Run plain (fresh_board until) (reverse asking) (promised until)
  asking_run = more (more (more start (inl asks_first)) (inl answers_first)) (inl hears_first)

nobody_voted : Nobody glyph_numbers (row asks asks none).entries 3
nobody_voted = each_of_three (λ j. vote_at glyph_numbers (row asks asks none).entries j <ℤ pos 0) (omega (arith, ints)) (omega (arith, ints)) (omega (arith, ints))

-- 0 has voted, 1 has voted, and 0 has heard of that
abbrev voted_once : Plain
voted_once = board 0 (rows (row votes asks none) (row asks asks none)) (slate votes asks 0) (piled (promised 0).post Accept 0 (all_but 3 0) votes asks none)

abbrev voted_twice : Plain
voted_twice = board 0 (rows (row votes asks none) (row votes votes none)) (slate votes votes 0) (piled (taken_off voted_once.post 1) Ack 1 (single 0) votes votes none)

abbrev decided : Plain
decided = board 0 (rows (row votes votes none) (row votes votes none)) voted_twice.store (taken_off voted_twice.post 2)

accepts_first : Does plain (promised 0) (accept (turn 0 3) sixty_eight (Ok (sixty_eight, 2))) voted_once
accepts_first = (
  refl,
  inr (nobody_voted, refl),
  record { saves = saves_well (promised 0).store 0 votes refl refl refl; table = refl; sends = sends (promised 0).post Accept 0 (all_but 3 0) votes asks none },
)

votes_along : Does plain voted_once (delivery 1 (of_three Accept 0 (all_but 3 0) votes asks none) 1) voted_twice
votes_along =
    hears Accept 0 (all_but 3 0) refl refl votes asks none voted_once 1 1 1 voted_twice refl refl refl refl refl refl refl refl refl refl
    (record {
      saves = inr (other_vote (λ is. omega arith), saves_well voted_once.store 1 votes refl refl refl);
      table = refl;
      acks = sends (taken_off voted_once.post 1) Ack 1 (single 0) votes votes none;
    })

hears_vote : Does plain voted_twice (delivery 0 (of_three Ack 1 (single 0) votes votes none) 0) decided
unfolding ones
hears_vote =
    hears Ack 1 (single 0) refl refl votes votes none voted_twice 0 2 0 decided refl refl refl refl refl refl refl refl refl refl
    (record { saves = inl (refl, refl); table = refl; acks = (refl, refl) })

choosing_run : Run plain (fresh_board 0) (reverse (asking ++ choosing)) decided
choosing_run = more (more (more (asking_run 0 refl refl) (inl accepts_first)) (inl votes_along)) (inl hears_vote)

-- the save of 0's vote failed but kept it; 0 is up again, and its row starts from the store
abbrev stopped : Plain
stopped = board 1 (promised 3).table.rows (slate votes asks 0) (promised 3).post

abbrev back : Plain
back = board 0 (rows (row votes none none) (row asks asks none)) stopped.store stopped.post

save_fails : Does plain (promised 3) (accept (turn 0 3) sixty_eight (Err (SaveFailed 0, turn 0 3))) stopped
save_fails = (
  refl,
  inr (
    refl,
    (
      sixty_eight,
      inr (nobody_voted, refl),
      record { fault = refl; saves = saves_badly (promised 3).store 0 votes refl refl refl; table = refl; post = refl },
    ),
  ),
)

starts_again : Does plain stopped (restart 0 (Ok tt)) back
starts_again = ((refl, record { reloaded = record { long = refl; own = mine; others = theirs }; table = refl }), refl, refl)
  where
    mine : (c : ℕ) → c < 1 → row_in back.table.rows (0 * 1 + c) ≡ first_row 0 (slate_means.at stopped.store (0 * 1 + c))
    mine zero lt = refl
    mine (suc c) lt = absurd (omega arith)

    theirs : (k : ℕ) → (k < 0 * 1) ⊎ (0 * 1 + 1 ≤ k) → row_in back.table.rows k ≡ row_in stopped.table.rows k
    theirs zero past = absurd (omega arith)
    theirs (suc k) past = refl

failing_run : Run plain (fresh_board 3) (reverse (asking ++ failing)) back
failing_run = more (more (asking_run 3 refl refl) (inl save_fails)) (inl starts_again)

-- the boards of the second ballot: 1 has asked, 0 has promised, and 1 has heard of that and of the vote
abbrev asked_again : Plain
asked_again = board 0 (rows (row votes none none) (row asks asks_again none)) (slate votes asks_again 0) (piled back.post Prepare 1 (all_but 3 1) asks asks_again none)

abbrev answered_again : Plain
answered_again =
    board 0 (rows (row promises_again asks_again none) (row asks asks_again none)) (slate promises_again asks_again 0)
    (piled (taken_off asked_again.post 1) Ack 0 (single 1) promises_again asks_again none)

abbrev promised_again : Plain
promised_again = board 0 (rows (row promises_again asks_again none) (row promises_again asks_again none)) answered_again.store (taken_off answered_again.post 2)

asks_second : Does plain back (prepare 1 0 (pos 4) (Ok (turn 1 4, 2))) asked_again
asks_second = (
  refl,
  refl,
  record { saves = saves_well back.store 1 asks_again refl refl refl; table = refl; sends = sends back.post Prepare 1 (all_but 3 1) asks asks_again none },
)

answers_second : Does plain asked_again (delivery 0 (of_three Prepare 1 (all_but 3 1) asks asks_again none) 1) answered_again
answers_second =
    hears Prepare 1 (all_but 3 1) refl refl asks asks_again none asked_again 0 1 1 answered_again refl refl refl refl refl refl refl refl refl refl
    (record {
      saves = inr (other_promise (λ is. omega arith), saves_well asked_again.store 0 promises_again refl refl refl);
      table = refl;
      acks = sends (taken_off asked_again.post 1) Ack 0 (single 1) promises_again asks_again none;
    })

hears_second : Does plain answered_again (delivery 1 (of_three Ack 0 (single 1) promises_again asks_again none) 0) promised_again
unfolding ones
hears_second =
    hears Ack 0 (single 1) refl refl promises_again asks_again none answered_again 1 2 0 promised_again refl refl refl refl refl refl refl refl refl refl
    (record { saves = inl (refl, refl); table = refl; acks = (refl, refl) })

-- the vote of 0 leads
leads : Leader glyph_numbers (row promises_again asks_again none).entries 3 0
leads =
    record {
      within = omega arith;
      voted = omega (arith, ints);
      first = λ j lt. absurd (omega arith);
      highest =
          each_of_three (λ j. vote_at glyph_numbers (row promises_again asks_again none).entries j ≤ℤ pos 3) (omega (arith, ints)) (omega (arith, ints)) (omega (arith, ints));
    }

-- 1 has voted, 0 has voted, and 1 has heard of that
abbrev carried_once : Plain
carried_once =
    board 0 (rows (row promises_again asks_again none) (row promises_again votes_again none)) (slate promises_again votes_again 0)
    (piled promised_again.post Accept 1 (all_but 3 1) promises_again votes_again none)

abbrev carried_twice : Plain
carried_twice =
    board 0 (rows (row votes_again votes_again none) (row promises_again votes_again none)) (slate votes_again votes_again 0)
    (piled (taken_off carried_once.post 2) Ack 0 (single 1) votes_again votes_again none)

abbrev redecided : Plain
redecided = board 0 (rows (row votes_again votes_again none) (row votes_again votes_again none)) carried_twice.store (taken_off carried_twice.post 3)

accepts_second : Does plain promised_again (accept (turn 1 4) ninety_nine (Ok (sixty_eight, 2))) carried_once
accepts_second = (
  refl,
  inl (0, leads, refl),
  record { saves = saves_well promised_again.store 1 votes_again refl refl refl; table = refl; sends = sends promised_again.post Accept 1 (all_but 3 1) promises_again votes_again none },
)

votes_along_again : Does plain carried_once (delivery 0 (of_three Accept 1 (all_but 3 1) promises_again votes_again none) 1) carried_twice
votes_along_again =
    hears Accept 1 (all_but 3 1) refl refl promises_again votes_again none carried_once 0 2 1 carried_twice refl refl refl refl refl refl refl refl refl refl
    (record {
      saves = inr (other_vote (λ is. omega arith), saves_well carried_once.store 0 votes_again refl refl refl);
      table = refl;
      acks = sends (taken_off carried_once.post 2) Ack 0 (single 1) votes_again votes_again none;
    })

hears_vote_again : Does plain carried_twice (delivery 1 (of_three Ack 0 (single 1) votes_again votes_again none) 0) redecided
unfolding ones
hears_vote_again =
    hears Ack 0 (single 1) refl refl votes_again votes_again none carried_twice 1 3 0 redecided refl refl refl refl refl refl refl refl refl refl
    (record { saves = inl (refl, refl); table = refl; acks = (refl, refl) })

carrying_run : Run plain back (reverse carrying) redecided
carrying_run =
    more (more (more (more (more (more start (inl asks_second)) (inl answers_second)) (inl hears_second)) (inl accepts_second)) (inl votes_along_again)) (inl hears_vote_again)

-- a row that shows two votes in one ballot and a participant without one
module _ (es : List Entry) (b : ℕ) (v : Glyph) (first : vote_at glyph_numbers es 0 ≡ pos b) (second : vote_at glyph_numbers es 1 ≡ pos b) (third : vote_at glyph_numbers es 2 ≡ negsuc 0) where
  voters : (a : ℤ) → majority.chooses three (voted glyph_numbers es 3 a) ≡ majority.chooses three (passing (same_ballot (pos b) a) (same_ballot (pos b) a) (same_ballot (negsuc 0) a))
  voters a = λ i. majority.chooses three (passing (same_ballot (first i) a) (same_ballot (second i) a) (same_ballot (third i) a))

  two_chose : value_at glyph_numbers es 0 ≡ Some v → Choice glyph_numbers (majority.chooses three) es 3 (pos b) v
  two_chose value =
      record {
        ballot = omega (arith, ints);
        chosen = voters (pos b) ∙ ap (λ t. majority.chooses three (passing t t false)) (eq-eqb b b refl);
        highest = λ a higher. voters a ∙ above a higher;
        holder = 0;
        within = omega arith;
        votes = first;
        first = λ j lt. absurd (omega arith);
        value = value;
      }
    where
      above : (a : ℤ) → pos b <ℤ a → majority.chooses three (passing (same_ballot (pos b) a) (same_ballot (pos b) a) (same_ballot (negsuc 0) a)) ≡ false
      above (pos k) higher = ap (λ t. majority.chooses three (passing t t false)) (ne_eqb b k (λ is. omega (arith, ints)))
      above (negsuc k) higher = absurd (omega (arith, ints))

nothing_shown : Shows glyph_numbers (majority.chooses three) (row none none none).entries 3 None
nothing_shown (pos k) at_least_lem = refl
nothing_shown (negsuc k) at_least_lem = absurd (omega (arith, ints))

glyphs_lawful : KindLaws glyph_numbers
glyphs_lawful = record { small = omega arith; fits = λ g. let ok = g.ok in omega arith; back = λ g. glyph_at_number g.number g.ok; same = number_of_glyph_at }

module _ (until : ℕ) where
  is_started : Started plain 3 1 three (fresh_board until).store (fresh_board until).table
  is_started = record { table = refl; long = refl; own = λ p c pn cn. own c cn p pn }
    where
      own : (c : ℕ) → c < 1 → (p : ℕ) → p < 3 → row_in (fresh_board until).table.rows (p * 1 + c) ≡ first_row p (slate_means.at (fresh_board until).store (p * 1 + c))
      own zero lt = each_of_three (λ p. row_in (fresh_board until).table.rows (p * 1 + 0) ≡ first_row p (slate_means.at (fresh_board until).store (p * 1 + 0))) refl refl refl
      own (suc c) lt = absurd (omega arith)

  is_fresh : Fresh slate_means (fresh_board until).store
  is_fresh zero = refl
  is_fresh (suc zero) = refl
  is_fresh (suc (suc zero)) = refl
  is_fresh (suc (suc (suc k))) = refl

pub worked : Worked
worked =
    record {
      fitting = λ until. refl;
      started = is_started;
      fresh = is_fresh;
      posts = pile_lawful;
      stores = slate_lawful;
      lawful = λ until.
          fresh_lawful plain glyphs_lawful majority_lawful pile_lawful slate_lawful 3 1 three 3 (fresh_board until).store (fresh_board until).post (fresh_board until).table refl (is_started until) (is_fresh until) refl;
      chosen = decided;
      chooses = choosing_run;
      reads = (refl, two_chose (row votes votes none).entries 3 sixty_eight refl refl refl refl);
      unheard = (refl, nothing_shown);
      restarted = back;
      fails = failing_run;
      keeps_vote = refl;
      unsent = refl;
      settled = redecided;
      carries = carrying_run;
      reads_first = (refl, two_chose (row votes_again votes_again none).entries 4 sixty_eight refl refl refl refl);
    }
