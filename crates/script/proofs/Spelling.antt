-- Reading a number digit by digit. Assumes nothing.
use Rattle.std.proofs.Common.{◌≡◌, ℕ, ◌+◌, ◌*◌, ◌^◌, ◌<◌, ◌≤◌, true, false, List, length, get_or, take, Some, None, refl, ap, arith, length-take}
use Rattle.std.specs.Str.Parse.{AllDigits, digits_value}
use Rattle.std.specs.Char.{is_ascii_digit, digit_value}
use Rattle.std.specs.Str.{all_ascii_digits}
use Rattle.std.proofs.lemmas.Int.Digits.{digits_value_more, digits_more}
use Rattle.std.proofs.lemmas.List.{take_all}
use Rattle.std.proofs.lemmas.List.Recursion.{and_fails_at}
use Rattle.std.proofs.lemmas.Str.Parse.{IsNumeralModel, numerals_by_value, tells_all_ascii_digits, digits_value_short}
use Rattle.std.proofs.lemmas.Bool.{lt-ltb, le-leb}
use Rattle.std.proofs.lemmas.Bool.Decides.{nat_tests}
use Rattle.script.specs.Numerals.{numeral}

own : IsNumeralModel (λ ds. all_ascii_digits ds ≡ true) (digits_value 10)
own = numerals_by_value _ tells_all_ascii_digits

-- n is what the first i bytes spell
pub record Read (bs : List ℕ) (i n : ℕ) : Type 0 where
  pub worth : n ≡ digits_value 10 (take i bs)
  pub digits : AllDigits 10 (take i bs)

module _ (bs : List ℕ) where
  pub read_below : (i n k : ℕ) → Read bs i n → i ≤ k → n < 10 ^ k
  read_below i n k r h = rw r.worth (digits_value_short own (take i bs) k (own.from _ r.digits) (simp length-take (omega arith)))

  -- past a byte c that is the digit d
  pub read_more : (i n c d : ℕ) → Read bs i n → i < length bs → c ≡ get_or bs i 0 → (digit_value c < 10) × (d ≡ digit_value c) → Read bs (i + 1) (n * 10 + d)
  read_more i n c d r l e v = record {
    worth = omega (arith, r.worth, digits_value_more 10 bs i l, ap digit_value e, v.1);
    digits = digits_more 10 bs i l r.digits (rw e at v.0);
  }

  pub read_all : (i n : ℕ) → Read bs i n → length bs ≤ i → 0 < length bs → length bs ≤ 8 → Some n ≡ numeral bs
  read_all i n r e l m =
      let whole = take_all i bs e in
      let digits = own.from _ (rw whole at r.digits) in
      let worth = rw whole at r.worth in
      rw (lt-ltb 0 (length bs) l, le-leb (length bs) 8 m, digits) (ap Some worth)

-- a byte that is no digit
not_digit : (c : ℕ) → (digit_value c < 10 → ⊥) → is_ascii_digit c ≡ false
not_digit c d = grind (arith, nat_tests)

pub not_read : (bs : List ℕ) (i c : ℕ) → i < length bs → c ≡ get_or bs i 0 → (digit_value c < 10 → ⊥) → None ≡ numeral bs
not_read bs i c l e d = rw (and_fails_at all_ascii_digits is_ascii_digit refl (λ _ _. refl) bs i 0 l (rw e at (not_digit c d))) (grind (arith, nat_tests))
