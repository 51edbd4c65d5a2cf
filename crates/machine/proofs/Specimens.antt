-- The worked examples hold. Assumes nothing.
use Rattle.std.proofs.Common.{◌≡◌, ℕ, zero, suc, Bool, true, false, eqb, pos, negsuc, None, refl, arith}
use Rattle.std.proofs.lemmas.Int.{ints}
use Rattle.std.proofs.lemmas.Bool.{eqb-true}
use Rattle.frames.specs.Examples.{prepare_example}
use Rattle.kinds.proofs.Worked.{glyph_examples, place_examples}
use Rattle.kinds.specs.Glyphs.{glyph_numbers}
use Rattle.ledger.specs.Examples.{three}
use Rattle.quorums.proofs.Worked.{majority_examples, weighted_examples}
use Rattle.quorums.specs.Majorities.{majority}
use Rattle.steps.specs.Rows.{Shows}
use Rattle.machine.specs.Specimens.{split_row, Specimens}

-- the set of those of three that pass
abbrev pub passing : Bool → Bool → Bool → ℕ → Bool
passing s t u zero = s
passing s t u (suc zero) = t
passing s t u (suc (suc k)) = u

not_both : (s t : Bool) → (s ≡ true → t ≡ true → ⊥) → majority.chooses three (passing s t false) ≡ false
not_both true true apart = absurd (apart refl refl)
not_both true false apart = refl
not_both false true apart = refl
not_both false false apart = refl

split_undecided : Shows glyph_numbers (majority.chooses three) split_row 3 None
split_undecided (negsuc k) at_least_lem = absurd (omega (arith, ints))
split_undecided (pos k) at_least_lem =
    not_both (eqb 3 k) (eqb 4 k)
    (λ a b. let three_is = eqb-true 3 k a in let four_is = eqb-true 4 k b in omega arith)

pub specimens : Specimens
specimens =
    record {
      frame = prepare_example;
      not_its_own = refl;
      last_ballot = refl;
      past_last = λ p. refl;
      unpromised = refl;
      majorities = majority_examples;
      weights = weighted_examples;
      places = place_examples;
      glyphs = glyph_examples;
      undecided = split_undecided;
    }
