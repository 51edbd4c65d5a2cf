-- The majority rule as a rule by weight. Assumes nothing.
use Rattle.std.specs.Prelude.{◌≡◌, ℕ, zero, suc, ◌+◌, ◌*◌, ◌/◌, ◌≤◌, T, nat_le, nat_lt, refl}
use Rattle.std.proofs.Common.{subst, ◌∙◌, arith}
use Rattle.std.proofs.lemmas.Bool.Decides.{nat_tests}
use Rattle.quorums.specs.Meaning.{RuleLaws}
use Rattle.quorums.specs.Sizes.{is_size}
use Rattle.quorums.specs.Weights.{weight_of, total}
use Rattle.quorums.specs.Majorities.{majority}
use Rattle.quorums.specs.Weighing.{weighing_lawful}
use Rattle.model.proofs.Masks.{sum_more}

-- what a rule's size tells
pub size_least : (n : ℕ) → T (is_size n) → 2 ≤ n
size_least n t = grind (arith, nat_tests)

pub size_most : (n : ℕ) → T (is_size n) → n ≤ 7
size_most n t = grind (arith, nat_tests)

-- each of n weighs 1
pub heads : (n : ℕ) → total (λ i. 1) n ≡ n
heads zero = refl
heads (suc n) = sum_more (λ i. 1) n ∙ omega (arith, heads n)

-- more than half is half and one more
as_threshold : (n k : ℕ) → nat_le (n / 2 + 1) k ≡ nat_lt n (2 * k)
as_threshold n k = grind (arith, nat_tests)

pub majority_lawful : RuleLaws majority
majority_lawful =
    subst RuleLaws
    (λ i. record {
      size = λ q. q.n;
      promises = λ q s. as_threshold q.n (weight_of (λ i. 1) q.n s) i;
      chooses = λ q s. as_threshold q.n (weight_of (λ i. 1) q.n s) i;
    })
    (weighing_lawful (λ q. q.n) (λ q i. 1) (λ q. q.n / 2 + 1) (λ q. q.n / 2 + 1)
    (λ q. omega (arith, heads q.n, size_least q.n q.ok)) (λ q. omega (arith, heads q.n, size_least q.n q.ok)) (λ q. omega (arith, heads q.n)))
