-- Sets joined and cut. Assumes nothing.
use Rattle.std.proofs.Common.{◌≡◌, ℕ, zero, suc, ◌/◌, ◌%◌, ◌^◌, ◌<◌, true, false, not, ◌&&◌, ◌||◌, eqb, ltb, refl, ap, ◌∙◌, ⊎_elim, arith, lt-ltb}
use lib.Bits.{bit_and, bit_or}
use Rattle.std.proofs.str.Laws.{order}
use Rattle.std.proofs.lemmas.Nat.{and_shr, and_mod, or_shr, or_mod, mod_below}
use Rattle.model.specs.Sets.{member, single, all_but, with, without}
use Rattle.model.proofs.Masks.{member-past, member-single, member-all_but}

or_bits : (x y : ℕ) → x < 2 → y < 2 → eqb (bit_or x y) 1 ≡ (eqb x 1 || eqb y 1)
or_bits zero zero a b = refl
or_bits zero (suc zero) a b = refl
or_bits zero (suc (suc y)) a b = absurd (omega arith)
or_bits (suc zero) zero a b = refl
or_bits (suc zero) (suc zero) a b = refl
or_bits (suc zero) (suc (suc y)) a b = absurd (omega arith)
or_bits (suc (suc x)) y a b = absurd (omega arith)

and_bits : (x y : ℕ) → x < 2 → y < 2 → eqb (bit_and x y) 1 ≡ (eqb x 1 && eqb y 1)
and_bits zero zero a b = refl
and_bits zero (suc zero) a b = refl
and_bits zero (suc (suc y)) a b = absurd (omega arith)
and_bits (suc zero) zero a b = refl
and_bits (suc zero) (suc zero) a b = refl
and_bits (suc zero) (suc (suc y)) a b = absurd (omega arith)
and_bits (suc (suc x)) y a b = absurd (omega arith)

bit : (n i : ℕ) → n / 2 ^ i % 2 < 2
bit n i = mod_below (n / 2 ^ i) 2 (omega arith)

pub member-or : (a b i : ℕ) → member (bit_or a b) i ≡ (member a i || member b i)
member-or a b i =
    ap (λ n. eqb (n % 2) 1) (or_shr a b i) ∙ ap (λ n. eqb n 1) (or_mod (a / 2 ^ i) (b / 2 ^ i) 1) ∙ or_bits (a / 2 ^ i % 2) (b / 2 ^ i % 2) (bit a i) (bit b i)

pub member-and : (a b i : ℕ) → member (bit_and a b) i ≡ (member a i && member b i)
member-and a b i =
    ap (λ n. eqb (n % 2) 1) (and_shr a b i) ∙ ap (λ n. eqb n 1) (and_mod (a / 2 ^ i) (b / 2 ^ i) 1) ∙ and_bits (a / 2 ^ i % 2) (b / 2 ^ i % 2) (bit a i) (bit b i)

pub member-with : (set p i : ℕ) → member (with set p) i ≡ (member set i || eqb i p && ltb p 8)
member-with set p i = member-or set (single p) i ∙ ap (λ t. member set i || t) (member-single p i)

pub member-without : (set p i : ℕ) → set < 2 ^ 8 → member (without set p) i ≡ (member set i && not (eqb i p))
member-without set p i small =
    member-and set (all_but 8 p) i ∙ ap (λ t. member set i && t) (member-all_but 8 p i)
    ∙ ⊎_elim (λ few. let h : ltb i 8 ≡ true = lt-ltb i 8 few in rw h) (λ past. let h : member set i ≡ false = member-past set i small past in rw h) (order i 8)

-- ---- what the calls answer, by its members

pub told_with : (r set p : ℕ) → r ≡ with set p → (i : ℕ) → member r i ≡ (member set i || eqb i p && ltb p 8)
told_with r set p e i = ap (λ s. member s i) e ∙ member-with set p i

pub told_without : (r set p : ℕ) → r ≡ without set p → set < 2 ^ 8 → (i : ℕ) → member r i ≡ (member set i && not (eqb i p))
told_without r set p e small i = ap (λ s. member s i) e ∙ member-without set p i small
