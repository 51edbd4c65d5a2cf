-- The test of a weighted rule, part by part. Assumes nothing.
use Rattle.std.specs.Prelude.{◌≡◌, ℕ, ◌<◌, ◌≤◌, true, false, ◌&&◌, leb, List, length, nat_lt, slice_index}
use Rattle.std.specs.List.{list_all}
use Rattle.std.proofs.Common.{ap, sym, ◌∙◌, arith}
use Rattle.std.proofs.lemmas.Bool.{le-leb, lt-ltb, and_from}
use Rattle.std.proofs.lemmas.Bool.Decides.{nat_tests}
use Rattle.std.proofs.lemmas.List.Folds.{list_all_at}
use Rattle.model.specs.Sets.{member}
use Rattle.quorums.specs.Meaning.{Everyone}
use Rattle.quorums.specs.Sizes.{is_size}
use Rattle.quorums.specs.Thresholds.{weight, crossed, stands}
use Rattle.quorums.specs.Weights.{weight_of, total}
use Rattle.quorums.specs.Weighing.{whole}

-- one heavy weight fails the test
pub one_heavy : (ws : List ℕ) (i : ℕ) → i < length ws → 15 < slice_index ws i → false ≡ list_all (λ w. leb w 15) ws
one_heavy ws i h heavy = sym (list_all_at (λ w. leb w 15) ws i 0 h (grind (arith, nat_tests)))

-- the parts of the test, put together
pub stands_from : (n : ℕ) (ws : List ℕ) (a b all : ℕ) → 2 ≤ n → n ≤ 7 → true ≡ list_all (λ w. leb w 15) ws → all ≡ total (weight ws) n
    → crossed all a b ≡ stands n ws a b
stands_from n ws a b all low high light is_total =
    ap (λ k. crossed k a b) is_total
    ∙ ap (λ t. t && crossed (total (weight ws) n) a b) (sym (and_from (is_size n) _ (and_from _ _ (le-leb 2 n low) (le-leb n 7 high)) (sym light)))

-- the first n are all in the mask of n
pub everyone : (mask n : ℕ) → n ≤ 7 → ((i : ℕ) → member mask i ≡ (nat_lt i n && nat_lt i 8)) → Everyone n (member mask)
everyone mask n few is i h = is i ∙ and_from (nat_lt i n) (nat_lt i 8) (lt-ltb i n h) (lt-ltb i 8 (omega arith))

-- the mask of n weighs the total
pub weight_of_all : (w : ℕ → ℕ) (mask n : ℕ) → n ≤ 7 → ((i : ℕ) → member mask i ≡ (nat_lt i n && nat_lt i 8)) → weight_of w n (member mask) ≡ total w n
weight_of_all w mask n few is = whole w n (member mask) (everyone mask n few is)
