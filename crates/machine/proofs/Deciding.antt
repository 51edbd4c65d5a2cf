-- A quiet round decides. Assumes nothing.
use Rattle.std.proofs.Common.{◌≡◌, ℕ, ◌*◌, ◌<◌, true, false, cond, List, [], ◌∷◌, length, ℤ, pos, negsuc, ◌≤ℤ◌, ◌<ℤ◌, is_some, None, Ok, Err, Option, sym, refl, ap, ◌∙◌, subst, inl, inr, ⊎_elim, true≢false, arith}
use lib.Signed.{lt_z}
use Rattle.std.specs.Option.{option_or}
use Rattle.std.proofs.lemmas.Int.{ints}
use Rattle.std.proofs.lemmas.Bool.{cases_eq, cases_Bool, and_from, and_parts, lt-ltb, ltb-true, eq-eqb, not_from_false}
use Rattle.frames.specs.declared.sort.Sort.TheVariants.{Prepare, Accept}
use Rattle.kinds.specs.Meaning.{KindMeaning, KindLaws}
use Rattle.model.specs.Entries.{is_entry}
use Rattle.model.specs.declared.faults.Fault.TheVariants.{Nowhere, IsDown, NotItsBallot, PromisedAlready, NotPromised, VotedAlready, TooFew}
use Rattle.model.specs.Sets.{member}
use Rattle.model.specs.declared.entries.Entry.{Entry}
use Rattle.model.specs.Faults.{number_of}
use Rattle.model.specs.declared.faults.Fault.{Fault}
use Rattle.model.proofs.Proper.{proper}
use Rattle.quorums.specs.Meaning.{RuleMeaning, RuleLaws}
use Rattle.steps.specs.Entries.{promising, voting}
use Rattle.steps.specs.Rows.{same_ballot, entry_at, promised, vote_of, vote_at, voted, Choice}
use Rattle.steps.proofs.Choosing.{ballot_same, peopled}
use Rattle.machine.specs.Board.{Makes, Board, Turn, row_of}
use Rattle.machine.specs.Calls.{Prepares, Accepts}
use Rattle.machine.specs.Law.{Clear, Reads, Quiet, to_others, Decides, QuietRound}
use Rattle.machine.specs.Refusals.{owns, cell_door, prepare_refusal, accept_refusal}
use Rattle.machine.specs.Runs.{Event, prepare, accept, Run, start, more}
use Rattle.machine.proofs.Ballots.{Ballot, owned, promising_entry, voting_entry}
use Rattle.machine.proofs.Checks.{passed, passes_none}
use Rattle.machine.proofs.Halves.{Below, Promises, Open, Votes as VotesFor, Voting, first_half, second_half}
use Rattle.machine.proofs.Invariant.{Tied}
use Rattle.machine.proofs.Quieting.{StaysTied, start as begins, ends}
use Rattle.machine.proofs.RowChanges.{shown_entry, view}

-- the second of two checks after a first that passed
both_pass : (first later : Option Fault) → first ≡ None → later ≡ None → option_or first later ≡ None
both_pass first later a b = passed first later a ∙ b

pub ballot_itself : (b : ℤ) → same_ballot b b ≡ true
ballot_itself (pos k) = eq-eqb k k refl
ballot_itself (negsuc k) = eq-eqb k k refl

ballot_is : (a b : ℤ) → a ≡ b → same_ballot a b ≡ true
ballot_is a b is = ap (λ d. same_ballot d b) is ∙ ballot_itself b

ballot_below : (a b : ℤ) → a <ℤ b → same_ballot a b ≡ false
ballot_below a b less = ⊎_elim (λ same. let is = ballot_same a b same in absurd (omega (arith, ints))) (λ e. e) (cases_Bool (same_ballot a b))

-- an entry whose promise is below a ballot has its vote there too
below_both : (b : ℤ) (o : Entry) → is_entry o ≡ true → o.promise <ℤ b → Below b o
below_both b o ok less = let v = proper o ok in record { promise = less; vote = grind (arith, ints) }

-- the door of a tied board is open to who is up
module _ {V Q P S : Type 0} (m : Makes V Q P S) (n cells : ℕ) (rule : Q) {es : List (Event V)} {x : Board Q P S} (tied : Tied m n cells rule es x) where
  pub cell_open : (p c : ℕ) → p < n → c < cells → member x.table.down p ≡ false → cell_door x.table p c ≡ None
  cell_open p c lt cell up =
      let all : length x.table.rows ≡ x.table.n * x.table.cells = tied.all ∙ (λ i. sym tied.same_n i * sym tied.same_cells i) in
      both_pass _ _
      (passes_none _ Nowhere
      (and_from _ _ (and_from _ _ (lt-ltb p x.table.n (omega (arith, lt, tied.same_n))) (lt-ltb c x.table.cells (omega (arith, cell, tied.same_cells)))) (eq-eqb _ _ all)))
      (passes_none _ IsDown (not_from_false (member x.table.down p) up))

-- all of a row voted in one ballot for one value, so it is chosen
module _ {V Q : Type 0} (kind : KindMeaning V) (kinds : KindLaws kind) (rules : RuleMeaning Q) (laws : RuleLaws rules) (rule : Q)
    (row : List Entry) (n : ℕ) (b : ℤ) (v : V) (all : (i : ℕ) → i < n → entry_at row i ≡ voting b (kind.code v)) where
  votes_all : (i : ℕ) → i < n → vote_at kind row i ≡ b
  votes_all i lt = ap (vote_of kind) (all i lt) ∙ ap (λ o. cond (is_some o) b (negsuc 0)) (kinds.back v)

  none_higher : (a : ℤ) → b <ℤ a → rules.chooses rule (voted kind row n a) ≡ false
  none_higher a above = ⊎_elim chosen (λ e. e) (cases_Bool (rules.chooses rule (voted kind row n a)))
    where
      chosen : rules.chooses rule (voted kind row n a) ≡ true → rules.chooses rule (voted kind row n a) ≡ false
      chosen e =
          let some = peopled rules laws rule (voted kind row n a) e in
          let parts = and_parts _ _ some.1 in
          let is : vote_at kind row some.0 ≡ a = ballot_same _ _ parts.1 in
          let at = votes_all some.0 (ltb-true _ _ parts.0) in
          absurd (omega (arith, ints))

  pub all_decide : pos 0 ≤ℤ b → 0 < n → rules.size rule ≡ n → Choice kind (rules.chooses rule) row n b v
  all_decide ballot some size =
      record {
        ballot = ballot;
        chosen = laws.all_choose rule (voted kind row n b) (λ i lt. let in_row : i < n = omega arith in and_from _ _ (lt-ltb i n in_row) (ballot_is _ b (votes_all i in_row)));
        highest = none_higher;
        holder = 0;
        within = some;
        votes = votes_all 0 some;
        first = λ j lt _. omega arith;
        value = ap (λ e. kind.value e.code) (all 0 some) ∙ kinds.back v;
      }

module _ {V Q P S : Type 0} (m : Makes V Q P S) (kinds : KindLaws m.kind) (laws : RuleLaws m.rule) (n cells : ℕ) (rule : Q)
    (tied_step : StaysTied m n cells rule)
    (round : Turn) (participant : round.p < n) (cell : round.c < cells) (mine : owns n round.p round.b ≡ true) where
  abbrev p : ℕ
  p = round.p

  abbrev c : ℕ
  c = round.c

  abbrev b : ℤ
  b = round.b

  ballot : Ballot b
  ballot = owned n p b mine

  -- the second half: all voted as p did, which reads its value
  module _ {es : List (Event V)} {x : Board Q P S} (tied : Tied m n cells rule es x) (up : (i : ℕ) → i < n → member x.table.down i ≡ false)
      (own_promise : Promises b (view x.table c p p))
      (promises : (q : ℕ) → q < n → (q ≡ p → ⊥) → Promises b (view x.table c q q))
      (shown : (q : ℕ) → q < n → (q ≡ p → ⊥) → Promises b (view x.table c p q)) where
    shown_all : (i : ℕ) → i < n → Promises b (view x.table c p i)
    shown_all i lt = ⊎_elim (λ same. subst (λ j. Promises b (view x.table c p j)) (sym same) own_promise) (shown i lt) (cases_eq i p)

    accepts_open : accept_refusal m.rule x.table p c b ≡ None
    accepts_open =
        let enough = laws.all_promise x.table.rule (promised (row_of x.table p c) x.table.n b)
        (λ i lt.
        let in_row : i < n = omega (arith, lt, ap m.rule.size tied.same_rule, tied.size) in
        and_from _ _ (lt-ltb i x.table.n (omega (arith, in_row, tied.same_n))) (ballot_is _ b (shown_all i in_row).promise)) in
        both_pass _ _ (cell_open m n cells rule tied p c participant cell (up p participant))
        (both_pass _ _ (passes_none _ NotPromised (ap (λ k. owns k p b) tied.same_n ∙ mine))
        (both_pass _ _ (passes_none _ NotPromised (ballot_is _ b own_promise.promise))
        (both_pass _ _ (passes_none _ VotedAlready (not_from_false _ (ballot_below _ b own_promise.vote)))
        (passes_none _ TooFew enough))))

    module _ (v : V) {wish : V} {kept : ℕ} {y : Board Q P S} (did : Accepts m (λ t. t) x round wish (Ok (v, kept)) y) where
      after : Tied m n cells rule (accept round wish (Ok (v, kept)) ∷ es) y
      after = tied_step es (accept round wish (Ok (v, kept))) x y tied (inl did)

      vote : is_entry (voting b (m.kind.code v)) ≡ true
      vote = voting_entry b (m.kind.code v) ballot (kinds.fits v)

      all_voted : (z : Board Q P S) → Quiet m y (to_others m y Accept p c) z → Reads m z p c b v
      all_voted z quiet =
          let code = m.kind.code v in
          let half = second_half b code in
          let begun = begins m kinds n cells rule c cell p participant (voting b code) vote (Promises b) (VotesFor b code) (Voting b code) half
          tied after Accept (eq-eqb _ _ refl) did.2.table up (λ q lt other. inl (promises q lt other)) shown in
          let end = ends m kinds n cells rule c cell p participant (voting b code) vote (Promises b) (VotesFor b code) (Voting b code) half tied_step quiet _ after begun in
          let last = end.tied in
          let all : (i : ℕ) → i < z.table.n → view z.table c p i ≡ voting b code
          = λ i lt. ⊎_elim (λ same. subst (λ j. view z.table c p j ≡ voting b code) (sym same) end.mine) (end.shown i (omega (arith, lt, last.same_n))) (cases_eq i p) in
          let low = ballot.low in (
            cell_open m n cells rule last p c participant cell (end.up p participant),
            all_decide m.kind kinds m.rule laws z.table.rule (row_of z.table p c) z.table.n b v all (grind (arith, ints))
                (omega (arith, last.some, last.same_n)) (ap m.rule.size last.same_rule ∙ last.size ∙ sym last.same_n),
          )

    pub decides : Decides m x round
    decides wish (Ok (v, kept)) y did saved = (v, (kept, refl, λ _ z quiet. all_voted v did z quiet))
    decides wish (Err (f, back)) y (_, inl r) saved = absurd (true≢false (ap is_some (sym r.0 ∙ accepts_open)))
    decides wish (Err (f, back)) y (_, inr (_, (v, carried, stopped))) saved = absurd (saved (ap number_of stopped.fault))

  -- the first half: all promise
  module _ {es : List (Event V)} {x : Board Q P S} (tied : Tied m n cells rule es x) (clear : Clear m x p c b) where
    up : (i : ℕ) → i < n → member x.table.down i ≡ false
    up i lt = clear.up i (omega (arith, lt, tied.same_n))

    below : (q i : ℕ) → q < n → i < n → Below b (view x.table c q i)
    below q i lt in_row = below_both b _ (shown_entry (row_of x.table q c) i) (clear.above q i (omega (arith, lt, tied.same_n)) (omega (arith, in_row, tied.same_n)))

    own_below : lt_z (view x.table c p p).promise b ≡ true
    own_below = let less = (below p p participant participant).promise in grind (arith, ints)

    prepares_open : prepare_refusal x.table p c b ≡ None
    prepares_open =
        both_pass _ _ (cell_open m n cells rule tied p c participant cell (up p participant))
        (both_pass _ _ (passes_none _ NotItsBallot clear.mine) (passes_none _ PromisedAlready own_below))

    abbrev first : Entry
    first = promising (view x.table c p p) b

    first_entry : is_entry first ≡ true
    first_entry = promising_entry (view x.table c p p) b (shown_entry (row_of x.table p c) p) ballot own_below

    first_promises : Promises b first
    first_promises = record { promise = refl; vote = (below p p participant participant).vote }

    module _ {turn : Turn} {kept : ℕ} {y : Board Q P S} (did : Prepares m (λ t. t) x p c b (Ok (turn, kept)) y) where
      prepared : Tied m n cells rule (prepare p c b (Ok (turn, kept)) ∷ es) y
      prepared = tied_step es (prepare p c b (Ok (turn, kept))) x y tied (inl did)

      all_promised : (z : Board Q P S) → Quiet m y (to_others m y Prepare p c) z → Decides m z round
      all_promised z quiet =
          let half = first_half b first first_promises in
          let begun = begins m kinds n cells rule c cell p participant first first_entry (Below b) (Promises b) (Open b) half
          tied prepared Prepare (eq-eqb _ _ refl) did.2.table up (λ q lt other. half.fresh _ (below q q lt lt)) (λ q lt other. below p q participant lt) in
          let end = ends m kinds n cells rule c cell p participant first first_entry (Below b) (Promises b) (Open b) half tied_step quiet _ prepared begun in
          decides end.tied end.up (subst (Promises b) (sym end.mine) first_promises) end.own end.shown

    pub quiet_round_at : QuietRound m x round
    quiet_round_at (Ok (turn, kept)) y did saved = (kept, ap (λ t. Ok (t, kept)) did.1, λ _ z quiet. all_promised did z quiet)
    quiet_round_at (Err f) y (inl r) saved = absurd (true≢false (ap is_some (sym r.0 ∙ prepares_open)))
    quiet_round_at (Err f) y (inr (_, stopped)) saved = absurd (saved (ap number_of stopped.fault))

module _ {V Q P S : Type 0} (m : Makes V Q P S) (kinds : KindLaws m.kind) (laws : RuleLaws m.rule) (n cells : ℕ) (rule : Q) (tied_step : StaysTied m n cells rule) where
  -- where every step leaves a board tied, a quiet round from a tied board decides
  pub quiet_round : {es : List (Event V)} {x : Board Q P S} → Tied m n cells rule es x → (round : Turn) → Clear m x round.p round.c round.b → QuietRound m x round
  quiet_round tied round clear =
      quiet_round_at m kinds laws n cells rule tied_step round (omega (arith, clear.participant, tied.same_n)) (omega (arith, clear.cell, tied.same_cells))
      (ap (λ k. owns k round.p round.b) (sym tied.same_n) ∙ clear.mine) tied clear

  run_tied : {x : Board Q P S} → Tied m n cells rule [] x → {es : List (Event V)} {y : Board Q P S} → Run m x es y → Tied m n cells rule es y
  run_tied tied start = tied
  run_tied tied (more {es = es} {e = e} {y = y} {z = z} run step) = tied_step es e y z (run_tied tied run) step

  -- and so does one after any run
  pub rounds_decide : {x : Board Q P S} → Tied m n cells rule [] x → {es : List (Event V)} {y : Board Q P S} (round : Turn)
      → Run m x es y → Clear m y round.p round.c round.b → QuietRound m y round
  rounds_decide tied round run = quiet_round (run_tied tied run) round
