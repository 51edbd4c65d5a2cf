-- The members of masks made of others. Assumes nothing.
use Rattle.std.proofs.Common.{◌≡◌, ℕ, ◌+◌, ◌-◌, ◌^◌, ◌<◌, ◌≤◌, min, Bool, true, false, not, ◌&&◌, ◌||◌, eqb, leb, ap, ◌∙◌, inl, inr, arith}
use lib.Bits.{bit_and}
use Rattle.std.specs.Int.{bit_at, bit_not, w8}
use Rattle.std.proofs.lemmas.Nat.Bits.{bit_at_and, bit_at_not, bit_at-lt, bit_at_above}
use Rattle.std.proofs.lemmas.Bool.{cases_lt}
use Rattle.std.proofs.lemmas.Bool.Decides.{nat_tests}
use Rattle.model.specs.Sets.{member}

-- of two bits, the one without the other
one_without : (a b : ℕ) → a < 2 → b < 2 → eqb (min a (1 - b)) 1 ≡ (eqb a 1 && not (eqb b 1))
one_without a b h k = grind (arith, nat_tests)

none_without : (a b c : ℕ) → a ≡ 0 → eqb (min a b) 1 ≡ (eqb a 1 && not (eqb c 1))
none_without a b c h = grind (arith, nat_tests)

-- a set without those of another
pub member_without : (set other : ℕ) → set < 2 ^ 8 → other < 2 ^ 8 → member (bit_and set (bit_not w8 other)) ≡ (λ q. member set q && not (member other q))
member_without set other h k = λ i q. at q i
  where
    at : (q : ℕ) → member (bit_and set (bit_not w8 other)) q ≡ (member set q && not (member other q))
    at q =
        ap (λ n. eqb n 1) (bit_at_and set (bit_not w8 other) q)
        ∙ elim (cases_lt q 8) [
          | inl below ↦ ap (λ n. eqb (min (bit_at set q) n) 1) (bit_at_not w8 other q k below) ∙ one_without (bit_at set q) (bit_at other q) (bit_at-lt set q) (bit_at-lt other q)
          | inr past ↦ none_without (bit_at set q) (bit_at (bit_not w8 other) q) (bit_at other q) (bit_at_above set 8 q h past)
        ]

-- a mask while addressees are dropped from it: those below q stay where there is room for them
pub record Weeding (to room : ℕ → Bool) (q set : ℕ) : Type 0 where
  pub each : (p : ℕ) → member set p ≡ (to p && (leb q p || room p))

module _ (to room : ℕ → Bool) (q set : ℕ) (w : Weeding to room q set) where
  at : (b : Bool) → room q ≡ b → (p : ℕ) → p ≡ q → room p ≡ b
  at b e p same = ap room same ∙ e

  pub weeding_stays : room q ≡ true → Weeding to room (q + 1) set
  weeding_stays e = record { each = λ p. let was = w.each p in let here = at true e p in grind (arith, nat_tests) }

  pub weeding_goes : (less : ℕ) → room q ≡ false → ((p : ℕ) → member less p ≡ (member set p && not (eqb p q))) → Weeding to room (q + 1) less
  weeding_goes less e is = record { each = λ p. let was = w.each p in let here = at false e p in let left = is p in grind (arith, nat_tests) }

  pub weeding_all : 8 ≤ q → ((p : ℕ) → 8 ≤ p → to p ≡ false) → member set ≡ (λ p. to p && room p)
  weeding_all all none = λ i p. done p i
    where
      done : (p : ℕ) → member set p ≡ (to p && room p)
      done p = let was = w.each p in let past = none p in grind (arith, nat_tests)
