-- Masks and their members. Assumes nothing.
use Rattle.std.proofs.Common.{◌≡◌, ℕ, zero, suc, ◌+◌, ◌-◌, ◌*◌, ◌/◌, ◌%◌, ◌^◌, ◌<◌, ◌≤◌, min, Bool, true, false, cond, not, ◌&&◌, eqb, ltb, map, sum_by, count_by, sym, refl, ap, ◌∙◌, ap₂, ⊎_elim, pow-suc, add-one, one-add, arith, pow_mono}
use mathlib.Core.Bool.{and-true, and-false}
use native.Mathlib.Nat.{div-eq_of_lt}
use lib.Bits.{bit_and}
use lib.Count.{ones, ones_cat}
use lib.Dec.{leb-suc-suc, eqb-suc-suc, eqb-suc-zero, eqb-zero-suc}
use Rattle.std.specs.List.{range_with_len}
use Rattle.std.proofs.lemmas.Nat.{pow_pos, mod-pow-add, mod_below, and_mask, shr-shr}
use Rattle.std.proofs.lemmas.List.FromFn.{sum_by-map-range_with_len_more}
use Rattle.std.proofs.lemmas.List.Sums.{sum-map}
use Rattle.std.proofs.lemmas.Bool.{eqb-true, cases_lt, cond-true, lt-ltb, and_from}
use Rattle.std.proofs.lemmas.Bool.Decides.{nat_tests}
use Rattle.model.specs.Sets.{member, all, single, all_but}

-- ---- members, from the lowest bit up

-- participant 0 is the lowest bit
pub member-0 : (set : ℕ) → member set 0 ≡ eqb (set % 2) 1
member-0 set = let z : set / 1 ≡ set = omega arith in rw z

-- and those above it are the members of the half
pub member-suc : (set i : ℕ) → member set (suc i) ≡ member (set / 2) i
member-suc set i = ap (λ n. eqb (n % 2) 1) (ap (λ k. set / 2 ^ k) (sym (one-add i)) ∙ sym (shr-shr set 1 i))

-- nobody is in the empty mask
pub member-none : (i : ℕ) → member 0 i ≡ false
member-none zero = refl
member-none (suc i) = member-suc 0 i ∙ member-none i

-- 2^m - 1 has the members below m
pub member-ones : (m i : ℕ) → member (2 ^ m - 1) i ≡ ltb i m
member-ones zero i = member-none i ∙ grind (arith, nat_tests)
member-ones (suc m) zero =
    let odd : (2 ^ suc m - 1) % 2 ≡ 1 = omega (arith, pow-suc 2 m, pow_pos m) in
    member-0 (2 ^ suc m - 1) ∙ ap (λ n. eqb n 1) odd ∙ grind (arith, nat_tests)
member-ones (suc m) (suc i) =
    let half : (2 ^ suc m - 1) / 2 ≡ 2 ^ m - 1 = omega (arith, pow-suc 2 m) in
    member-suc (2 ^ suc m - 1) i ∙ ap (λ n. member n i) half ∙ member-ones m i ∙ sym (leb-suc-suc (suc i) m)

-- 2^p has the member p
pub member-power : (p i : ℕ) → member (2 ^ p) i ≡ eqb i p
member-power zero zero = refl
member-power zero (suc i) = member-suc 1 i ∙ member-none i ∙ sym (eqb-suc-zero i)
member-power (suc p) zero =
    let even : 2 ^ suc p % 2 ≡ 0 = omega (arith, pow-suc 2 p) in
    member-0 (2 ^ suc p) ∙ ap (λ n. eqb n 1) even ∙ sym (eqb-zero-suc p)
member-power (suc p) (suc i) =
    let half : 2 ^ suc p / 2 ≡ 2 ^ p = omega (arith, pow-suc 2 p) in
    member-suc (2 ^ suc p) i ∙ ap (λ n. member n i) half ∙ member-power p i ∙ sym (eqb-suc-suc i p)

-- a member is worth no more than its mask
pub member-worth : (set p : ℕ) → member set p ≡ true → 2 ^ p ≤ set
member-worth set p e =
    ⊎_elim (λ h. let z : set / 2 ^ p ≡ 0 = div-eq_of_lt h in absurd (omega (arith, eqb-true (set / 2 ^ p % 2) 1 e))) (λ h. h) (cases_lt set (2 ^ p))

-- without a member's worth a mask has the others
pub member-less : (set p i : ℕ) → member set p ≡ true → member (set - 2 ^ p) i ≡ (member set i && not (eqb i p))
member-less set zero zero e =
    let even : (set - 1) % 2 ≡ 0 = omega (arith, eqb-true (set % 2) 1 (sym (member-0 set) ∙ e)) in
    member-0 (set - 1) ∙ ap (λ n. eqb n 1) even ∙ sym (and-false (member set 0))
member-less set zero (suc i) e =
    let half : (set - 1) / 2 ≡ set / 2 = omega (arith, eqb-true (set % 2) 1 (sym (member-0 set) ∙ e)) in
    member-suc (set - 1) i ∙ ap (λ n. member n i) half ∙ sym (member-suc set i)
    ∙ sym (and-true (member set (suc i))) ∙ ap (λ b. member set (suc i) && not b) (sym (eqb-suc-zero i))
member-less set (suc p) zero e =
    let low : (set - 2 ^ suc p) % 2 ≡ set % 2 = omega (arith, pow-suc 2 p, member-worth set (suc p) e) in
    member-0 (set - 2 ^ suc p) ∙ ap (λ n. eqb n 1) low ∙ sym (member-0 set)
    ∙ sym (and-true (member set 0)) ∙ ap (λ b. member set 0 && not b) (sym (eqb-zero-suc p))
member-less set (suc p) (suc i) e =
    let half : (set - 2 ^ suc p) / 2 ≡ set / 2 - 2 ^ p = omega (arith, pow-suc 2 p, member-worth set (suc p) e) in
    member-suc (set - 2 ^ suc p) i ∙ ap (λ n. member n i) half ∙ member-less (set / 2) p i (sym (member-suc set p) ∙ e)
    ∙ ap₂ (λ x y. x && not y) (sym (member-suc set i)) (sym (eqb-suc-suc i p))

-- two masks with the same members are one
pub same_below : (n a b : ℕ) → a < 2 ^ n → b < 2 ^ n → ((i : ℕ) → i < n → member a i ≡ member b i) → a ≡ b
same_below zero a b f g same = omega arith
same_below (suc n) a b f g same =
    let high : a / 2 ≡ b / 2
    = same_below n (a / 2) (b / 2) (omega (arith, pow-suc 2 n)) (omega (arith, pow-suc 2 n))
    (λ i h. sym (member-suc a i) ∙ same (suc i) (omega arith) ∙ member-suc b i) in
    let low : eqb (a % 2) 1 ≡ eqb (b % 2) 1 = sym (member-0 a) ∙ same 0 (omega arith) ∙ member-0 b in
    grind (arith, nat_tests)

pub same_mask : (a b : ℕ) → a < 256 → b < 256 → ((i : ℕ) → member a i ≡ member b i) → a ≡ b
same_mask a b f g same = same_below 8 a b f g (λ i h. same i)

-- ---- the sets of the register

-- a mask of eight bits has nobody past 7
pub member-past : (set p : ℕ) → set < 2 ^ 8 → 8 ≤ p → member set p ≡ false
member-past set p small past =
    let wide : 2 ^ 8 ≤ 2 ^ p = pow_mono past in
    let gone : set / 2 ^ p ≡ 0 = div-eq_of_lt (omega arith) in
    rw gone

pub member-all : (n i : ℕ) → member (all n) i ≡ (ltb i n && ltb i 8)
member-all n i = member-ones (min n 8) i ∙ grind (arith, nat_tests)

pub member-single : (p i : ℕ) → member (single p) i ≡ (eqb i p && ltb p 8)
member-single p i = go (ltb p 8)
  where
    go : (b : Bool) → member (cond b (2 ^ p) 0) i ≡ (eqb i p && b)
    go true = member-power p i ∙ sym (and-true (eqb i p))
    go false = member-none i ∙ sym (and-false (eqb i p))

pub member-all_but : (n p i : ℕ) → member (all_but n p) i ≡ (ltb i n && ltb i 8 && not (eqb i p))
member-all_but n p i = go (ltb p n && ltb p 8) refl
  where
    go : (b : Bool) → (ltb p n && ltb p 8) ≡ b → member (cond b (all n - 2 ^ p) (all n)) i ≡ (ltb i n && ltb i 8 && not (eqb i p))
    go true e = member-less (all n) p i (member-all n p ∙ e) ∙ ap (λ x. x && not (eqb i p)) (member-all n i)
    go false e = member-all n i ∙ grind (arith, nat_tests)

-- one participant can be taken from all
pub takes_out : (a s n p : ℕ) → a ≡ all n → s ≡ single p → p < n → p < 8 → (s ≤ a) × (a - s ≡ all_but n p)
takes_out a s n p e f h k =
    let one : s ≡ 2 ^ p = f ∙ cond-true (ltb p 8) (2 ^ p) 0 (lt-ltb p 8 k) in
    let in_all : member (all n) p ≡ true = member-all n p ∙ and_from (ltb p n) (ltb p 8) (lt-ltb p n h) (lt-ltb p 8 k) in (
      omega (arith, member-worth (all n) p in_all),
      ap₂ (λ x y. x - y) e one ∙ sym (cond-true (ltb p n && ltb p 8) (all n - 2 ^ p) (all n) (sym (member-all n p) ∙ in_all)),
    )

-- ---- counting

-- a sum over the first participants, with one more
pub sum_more : (f : ℕ → ℕ) (n : ℕ) → sum_by f (range_with_len 0 (suc n)) ≡ sum_by f (range_with_len 0 n) + f n
sum_more f n =
    sym (sum-map f (range_with_len 0 (suc n))) ∙ ap (λ m. sum_by (λ x. x) (map f (range_with_len 0 m))) (sym (add-one n))
    ∙ sum_by-map-range_with_len_more (λ x. x) f 0 n n (omega arith) ∙ ap (λ m. m + f n) (sum-map f (range_with_len 0 n))

bit_ones : (b : ℕ) → b < 2 → ones b ≡ cond (eqb b 1) 1 0
unfolding ones
bit_ones zero h = refl
bit_ones (suc zero) h = refl
bit_ones (suc (suc b)) h = absurd (omega arith)

-- the ones below n count the members below n
pub ones_members : (set n : ℕ) → ones (set % 2 ^ n) ≡ count_by (member set) (range_with_len 0 n)
unfolding ones
ones_members set zero = let z : set % 1 ≡ 0 = omega arith in ap ones z
ones_members set (suc n) =
    let cut : set % 2 ^ (1 + n) ≡ (set / 2 ^ n % 2) * 2 ^ n + set % 2 ^ n = mod-pow-add set 1 n in
    ap (λ k. ones (set % 2 ^ k)) (sym (one-add n)) ∙ ap ones cut ∙ ones_cat n (set / 2 ^ n % 2) (set % 2 ^ n) (mod_below set (2 ^ n) (pow_pos n))
    ∙ ap₂ (λ a b. a + b) (bit_ones (set / 2 ^ n % 2) (mod_below (set / 2 ^ n) 2 (omega arith))) (ones_members set n)
    ∙ omega (arith, sum_more (λ i. cond (member set i) 1 0) n)

-- and so do the ones of the mask cut to the first n
pub ones_below : (set n : ℕ) → n ≤ 8 → ones (bit_and set (all n)) ≡ count_by (member set) (range_with_len 0 n)
ones_below set n h =
    let few : min n 8 ≡ n = omega arith in
    ap (λ k. ones (bit_and set (2 ^ k - 1))) few ∙ ap ones (and_mask set n) ∙ ones_members set n

-- ---- what the calls on sets answer, by its members

pub told_all : (r n : ℕ) → r ≡ all n → (i : ℕ) → member r i ≡ (ltb i n && ltb i 8)
told_all r n e i = ap (λ s. member s i) e ∙ member-all n i

pub told_single : (r p : ℕ) → r ≡ single p → (i : ℕ) → member r i ≡ (eqb i p && ltb p 8)
told_single r p e i = ap (λ s. member s i) e ∙ member-single p i

pub told_all_but : (r n p : ℕ) → r ≡ all_but n p → (i : ℕ) → member r i ≡ (ltb i n && ltb i 8 && not (eqb i p))
told_all_but r n p e i = ap (λ s. member s i) e ∙ member-all_but n p i

pub told_count : (set : ℕ) → set < 2 ^ 8 → ones set ≡ count_by (member set) (range_with_len 0 8)
told_count set h = let whole : set ≡ set % 2 ^ 8 = omega arith in ap ones whole ∙ ones_members set 8
