-- What one half of a round makes of the entries of the others. Assumes nothing.
use Rattle.std.proofs.Common.{◌≡◌, ℕ, true, false, cond, ◌⊎◌, ℤ, ◌≤ℤ◌, ◌<ℤ◌, ap, ◌∙◌, inl, inr, arith}
use lib.Signed.{lt_z, le_z}
use Rattle.std.specs.Int.{int_max}
use Rattle.std.proofs.lemmas.Int.{ints, clamps}
use Rattle.model.specs.Entries.{is_entry}
use Rattle.model.specs.declared.entries.Entry.{Entry}
use Rattle.steps.specs.Entries.{voting, seen, adopted, behind}
use Rattle.ledger.proofs.Histories.{Under}

-- e is announced; the others are fresh before they hear of it and done when they did, and ready all the while
pub record Half (e : Entry) (Fresh Done Ready : Entry → Type 0) : Type 0 where
  pub fresh : (o : Entry) → Fresh o → Ready o
  pub ready : (o : Entry) → Done o → Ready o
  pub hears : (o : Entry) → is_entry o ≡ true → Ready o → Done (adopted o e)
  pub answers : (view s : Entry) → is_entry view ≡ true → Ready view → Done s → Done (seen view s)
  pub late : (t o : Entry) → Fresh t → Done o → behind t o ≡ true
  pub stays : (s : Entry) → Done s → adopted e s ≡ e

-- who shows at least e of its announcer is not answered
pub not_behind : (e t : Entry) → Under e t → behind t e ≡ false
not_behind e t u = grind (arith, ints)

pub seen_over : (view s : Entry) → Under s (seen view s)
seen_over view s = record { promise = omega (arith, ints, clamps); vote = grind (arith, ints) }

module _ (b : ℤ) where
  -- below the ballot
  pub record Below (o : Entry) : Type 0 where
    pub promise : o.promise <ℤ b
    pub vote : o.vote <ℤ b

  -- the ballot is promised, and not voted in
  pub record Promises (o : Entry) : Type 0 where
    pub promise : o.promise ≡ b
    pub vote : o.vote <ℤ b

  -- not voted in the ballot, nor promised above it
  pub record Open (o : Entry) : Type 0 where
    pub promise : o.promise ≤ℤ b
    pub vote : o.vote <ℤ b

  pub first_half : (e : Entry) → Promises e → Half e Below Promises Open
  first_half e is =
      let at = is.promise in
      let under = is.vote in
      record {
        fresh = λ o f. record { promise = (let h = f.promise in omega (arith, ints)); vote = f.vote };
        ready = λ o d. record { promise = (let h = d.promise in omega (arith, ints)); vote = d.vote };
        hears = λ o ok r. let h = r.promise in let k = r.vote in record { promise = omega (arith, ints, clamps); vote = grind (arith, ints) };
        answers = λ view s ok r d. let h = r.promise in let k = r.vote in let g = d.promise in let l = d.vote in
            record { promise = omega (arith, ints, clamps); vote = grind (arith, ints) };
        late = λ t o f d. let h = f.promise in let g = d.promise in grind (arith, ints);
        stays = λ s d. first_stays s d;
      }
    where
      first_stays : (s : Entry) → Promises s → adopted e s ≡ e
      first_stays s d =
          let at = is.promise in
          let under = is.vote in
          let h = d.promise in
          let k = d.vote in
          let top : int_max e.promise s.promise ≡ e.promise = omega (arith, ints, clamps) in
          let no : le_z e.promise s.vote ≡ false = grind (arith, ints) in
          λ i. record { promise = top i; vote = (cond (no i) s e).vote; code = (cond (no i) s e).code }

  module _ (code : ℕ) where
    abbrev voted : Entry
    voted = voting b code

    -- voted for the code, or not yet voted
    abbrev pub Votes : Entry → Type 0
    Votes o = o ≡ voting b code

    abbrev pub Voting : Entry → Type 0
    Voting o = Promises o ⊎ Votes o

    same_vote : adopted (voting b code) (voting b code) ≡ voting b code
    same_vote =
        let top : int_max b b ≡ b = omega (arith, ints, clamps) in
        let yes : le_z b b ≡ true = grind (arith, ints) in
        λ i. record { promise = top i; vote = (cond (yes i) voted voted).vote; code = (cond (yes i) voted voted).code }

    same_view : seen (voting b code) (voting b code) ≡ voting b code
    same_view =
        let top : int_max b b ≡ b = omega (arith, ints, clamps) in
        let no : lt_z b b ≡ false = grind (arith, ints) in
        λ i. record { promise = top i; vote = (cond (no i) voted voted).vote; code = (cond (no i) voted voted).code }

    new_vote : (o : Entry) → Promises o → adopted o (voting b code) ≡ voting b code
    new_vote o d =
        let h = d.promise in
        let top : int_max o.promise b ≡ b = omega (arith, ints, clamps) in
        let yes : le_z o.promise b ≡ true = grind (arith, ints) in
        λ i. record { promise = top i; vote = (cond (yes i) voted o).vote; code = (cond (yes i) voted o).code }

    new_view : (o : Entry) → Promises o → seen o (voting b code) ≡ voting b code
    new_view o d =
        let h = d.promise in
        let k = d.vote in
        let top : int_max o.promise b ≡ b = omega (arith, ints, clamps) in
        let yes : lt_z o.vote b ≡ true = grind (arith, ints) in
        λ i. record { promise = top i; vote = (cond (yes i) voted o).vote; code = (cond (yes i) voted o).code }

    hears_vote : (o : Entry) → Voting o → Votes (adopted o (voting b code))
    hears_vote o (inl d) = new_vote o d
    hears_vote o (inr is) = ap (λ o. adopted o (voting b code)) is ∙ same_vote

    answers_vote : (view s : Entry) → Voting view → Votes s → Votes (seen view s)
    answers_vote view s (inl d) is = ap (seen view) is ∙ new_view view d
    answers_vote view s (inr was) is = (λ i. seen (was i) (is i)) ∙ same_view

    late_vote : (t o : Entry) → Promises t → Votes o → behind t o ≡ true
    late_vote t o d is = let k = d.vote in let v = ap (λ e. e.vote) is in grind (arith, ints)

    pub second_half : Half (voting b code) Promises Votes Voting
    second_half =
        record {
          fresh = λ o. inl;
          ready = λ o. inr;
          hears = λ o ok. hears_vote o;
          answers = λ view s ok. answers_vote view s;
          late = late_vote;
          stays = λ s is. ap (adopted (voting b code)) is ∙ same_vote;
        }
