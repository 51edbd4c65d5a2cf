-- The worked ledgers are kept, and show what they say. Assumes nothing.
use Rattle.std.proofs.Common.{◌≡◌, ℕ, zero, suc, ◌<◌, true, [], ◌∷◌, ℤ, pos, ◌≤ℤ◌, ◌<ℤ◌, refl, inl, inr, arith}
use Rattle.std.specs.List.{Contains}
use Rattle.std.proofs.lemmas.List.Elements.{Contains-get_or}
use Rattle.std.proofs.lemmas.Int.{ints}
use Rattle.model.specs.Entries.{none}
use Rattle.model.specs.declared.entries.Entry.{Entry}
use Rattle.quorums.specs.Majorities.{majority}
use Rattle.quorums.specs.Meaning.{RuleMeaning}
use Rattle.steps.specs.Entries.{promising, voting}
use Rattle.steps.specs.Rows.{same_ballot}
use Rattle.steps.proofs.Choosing.{ballot_same}
use Rattle.ledger.specs.Ledgers.{Ledger, empty, saved, latest, newest, still, onward}
use Rattle.ledger.specs.Growth.{Promised, Highest, Voteless, Kept, fresh}
use Rattle.ledger.specs.Agreement.{Chosen, Shown}
use Rattle.ledger.specs.Examples.{three, first_round, second_round, Worked}
use Rattle.ledger.proofs.Histories.{latest_past}
use Rattle.ledger.proofs.Growing.{kept_prepare, kept_accept, kept_receive}

-- those whose promise in the row is b suffice
those_promised : {Q : Type 0} {m : RuleMeaning Q} {q : Q} (row : ℕ → Entry) (b : ℤ) → m.promises q (λ i. same_ballot (row i).promise b) ≡ true → Promised m q row b
those_promised row b suffices = record { set = λ i. same_ballot (row i).promise b; suffices = suffices; promise = λ i _ is. ballot_same (row i).promise b is }

those_voted : {Q : Type 0} {m : RuleMeaning Q} {q : Q} (row : ℕ → Entry) (b : ℤ) → m.chooses q (λ i. same_ballot (row i).vote b) ≡ true → Chosen m q row b
those_voted row b suffices = record { set = λ i. same_ballot (row i).vote b; suffices = suffices; vote = λ i _ is. ballot_same (row i).vote b is }

-- one after another
each_of_three : (P : ℕ → Type 0) → P 0 → P 1 → P 2 → (j : ℕ) → j < 3 → P j
each_of_three P a b c zero lt = a
each_of_three P a b c (suc zero) lt = b
each_of_three P a b c (suc (suc zero)) lt = c
each_of_three P a b c (suc (suc (suc j))) lt = absurd (omega arith)

abbrev asked : Ledger
asked = saved (saved empty 0 (promising none (pos 3))) 1 (promising none (pos 3))

abbrev asked_again : Ledger
asked_again = saved (saved first_round 2 (promising none (pos 5))) 1 (promising (voting (pos 3) 68) (pos 5))

abbrev Ours : Ledger → Type 0
Ours = Kept majority three (Contains (68 ∷ 99 ∷ []))

asked_voteless : Voteless 3 (latest asked)
asked_voteless = each_of_three (λ j. (latest asked j).vote <ℤ pos 0) (omega (arith, ints)) (omega (arith, ints)) (omega (arith, ints))

first_kept : Ours first_round
first_kept =
    let prepared : Ours (saved empty 0 (promising none (pos 3))) = kept_prepare fresh 0 none refl (pos 3) (omega (arith, ints)) in
    let promised : Ours asked = kept_receive prepared 1 none refl (inr newest) in
    let accepted : Ours (saved asked 0 (voting (pos 3) 68))
    = kept_accept promised 0 (promising none (pos 3)) refl (pos 3) refl refl (λ is. omega (arith, ints)) (latest asked) (λ i _. latest_past asked i)
    (those_promised (latest asked) (pos 3) refl) 68 (inr (asked_voteless, Contains-get_or (68 ∷ 99 ∷ []) 0 0 (omega arith))) in
    kept_receive accepted 1 (promising none (pos 3)) refl (inr newest)

highest_seen : Highest 3 (latest asked_again) 1
highest_seen =
    record {
      within = omega arith;
      voted = omega (arith, ints);
      highest = each_of_three (λ j. (latest asked_again j).vote ≤ℤ pos 3) (omega (arith, ints)) (omega (arith, ints)) (omega (arith, ints));
    }

second_kept : Ours second_round
second_kept =
    let prepared : Ours (saved first_round 2 (promising none (pos 5))) = kept_prepare first_kept 2 none refl (pos 5) (omega (arith, ints)) in
    let promised : Ours asked_again = kept_receive prepared 1 (voting (pos 3) 68) refl (inr newest) in
    let accepted : Ours (saved asked_again 2 (voting (pos 5) 68))
    = kept_accept promised 2 (promising none (pos 5)) refl (pos 5) refl refl (λ is. omega (arith, ints)) (latest asked_again) (λ i _. latest_past asked_again i)
    (those_promised (latest asked_again) (pos 5) refl) 68 (inl (1, highest_seen, refl)) in
    kept_receive accepted 1 (promising (voting (pos 3) 68) (pos 5)) refl (inr newest)

-- what everybody holds at the end of a round
shown_last : (L : Ledger) (b : ℤ) → pos 0 ≤ℤ b → majority.chooses three (λ i. same_ballot (latest L i).vote b) ≡ true → (latest L 1).vote ≡ b
    → Shown majority three L (latest L) b (latest L 1).code
shown_last L b ballot suffices votes =
    record {
      past = λ i _. latest_past L i;
      ballot = ballot;
      chosen = those_voted (latest L) b suffices;
      holder = 1;
      within = omega arith;
      votes = votes;
      coded = refl;
    }

pub worked : Worked
worked =
    record {
      kept = second_kept;
      goes_on = onward (onward (onward (onward still)));
      first = shown_last first_round (pos 3) (omega (arith, ints)) refl refl;
      second = shown_last second_round (pos 5) (omega (arith, ints)) refl refl;
    }
