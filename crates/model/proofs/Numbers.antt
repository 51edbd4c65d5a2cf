-- A number in bytes, highest first, and back. Assumes nothing.
use Rattle.std.proofs.Common.{◌≡◌, ℕ, zero, suc, ◌+◌, ◌*◌, ◌/◌, ◌%◌, ◌^◌, ◌<◌, ◌≤◌, List, [], ◌∷◌, length, refl, ap, ◌∙◌, mod-eq_of_lt, mul_assoc, add-mul, pow-suc, add-one, arith}
use native.Mathlib.Nat.{pow-le-pow_right, pow-succ', mod-one}
use lib.Arith.{mod-mul, digits_div, digits_mod}
use Rattle.std.specs.Int.{bytes_high_first}
use Rattle.std.specs.Int.Digits.{number_from_digits, number_from_digits_after, AllBelowBase}
use Rattle.std.proofs.lemmas.Int.Digits.{number_lt}
use Rattle.model.specs.Bytes.{big}

pub length-big : (k n : ℕ) → length (big k n) ≡ k
length-big zero n = refl
length-big (suc k) n = ap suc (length-big k n)

-- the library's bytes of a number are these
pub high_first : (k n : ℕ) → bytes_high_first k n ≡ big k n
high_first zero n = refl
high_first (suc zero) n = let one : n / 1 ≡ n = omega arith in rw one
high_first (suc (suc k)) n = ap (λ ds. (n / 256 ^ suc k % 256) ∷ ds) (high_first (suc k) n)

positive : (k : ℕ) → 0 < 256 ^ k
positive zero = omega arith
positive (suc k) = let h = positive k in rw (pow-suc 256 k) (omega arith)

after_big : (k n a : ℕ) → number_from_digits_after 256 a (big k n) ≡ a * 256 ^ k + n % 256 ^ k
after_big zero n a = omega (arith, mod-one n)
after_big (suc k) n a =
    let d = n / 256 ^ k % 256 in
    let split = mod-mul n {m = 256} {c = 256 ^ k} (omega arith) (positive k) in
    rw (after_big k n (a * 256 + d), pow-succ' 256 k, split) (omega (arith, add-mul (a * 256) d (256 ^ k), mul_assoc a 256 (256 ^ k)))

-- the bytes of a number that fits spell it
pub number_big : (k n : ℕ) → n < 256 ^ k → number_from_digits 256 (big k n) ≡ n
number_big k n fits = after_big k n 0 ∙ omega (arith, mod-eq_of_lt fits)

after_split : (n : ℕ) (ds : List ℕ) → number_from_digits_after 256 n ds ≡ n * 256 ^ length ds + number_from_digits 256 ds
after_split n [] = omega arith
after_split n (d ∷ ds) =
    let one = after_split (n * 256 + d) ds in
    let two = after_split (0 * 256 + d) ds in
    let plus = add-mul (n * 256) d (256 ^ length ds) in
    let none = add-mul (0 * 256) d (256 ^ length ds) in
    rw (pow-succ' 256 (length ds)) (omega (arith, one, two, plus, none, mul_assoc n 256 (256 ^ length ds)))

big_after : (a : ℕ) (bs : List ℕ) → AllBelowBase 256 bs → big (length bs) (number_from_digits_after 256 a bs) ≡ bs
big_after a [] small = refl
big_after a (d ∷ ds) small =
    let rest = big_after (a * 256 + d) ds small.1 in
    let under = number_lt 256 ds small.1 in
    let front : number_from_digits_after 256 (a * 256 + d) ds / 256 ^ length ds % 256 ≡ d = rw (after_split (a * 256 + d) ds, digits_div (a * 256 + d) under, digits_mod a small.0) in
    λ i. front i ∷ rest i

-- only one string of so many bytes spells a number
pub big_number : (bs : List ℕ) → AllBelowBase 256 bs → big (length bs) (number_from_digits 256 bs) ≡ bs
big_number bs small = big_after 0 bs small

-- with at most five bytes read there is room for one more
pub room : (n i b : ℕ) → n < 256 ^ i → i < 6 → b < 256 → n * 256 + b < 2 ^ 64
room n i b under few small = let wide : 256 ^ i ≤ 256 ^ 5 = pow-le-pow_right {n = 256} (omega arith) {i = i} {j = 5} (omega arith) in omega arith

pub one_byte_more : (n i b : ℕ) → n < 256 ^ i → b < 256 → n * 256 + b < 256 ^ (i + 1)
one_byte_more n i b under small = rw (add-one i, pow-suc 256 i) (omega arith)
