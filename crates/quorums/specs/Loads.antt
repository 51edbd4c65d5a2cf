-- The weighted rule: its weights, and its laws. Assumes nothing.
use Rattle.std.specs.Prelude.{◌≡◌, ℕ, ◌+◌, ◌<◌, ◌≤◌, true, T, leb, List, length, Ok, Decides}
use Rattle.std.proofs.Common.{ap, sym, ◌∙◌, arith}
use Rattle.std.specs.List.{list_all, All}
use Rattle.std.specs.Option.{ok_or}
use Rattle.std.proofs.lemmas.Bool.Decides.{nat_tests}
use Rattle.std.proofs.lemmas.Bool.{leb-true, le-leb}
use Rattle.std.proofs.lemmas.List.Elements.{All-weaker}
use Rattle.std.proofs.lemmas.List.Sums.{AllPass-from_list_all, list_all-from_AllPass}
use Rattle.model.specs.declared.faults.Fault.TheVariants.{NoRule}
use Rattle.model.specs.Makers.{made_if}
use Rattle.model.proofs.Makes.{made_by}
use Rattle.quorums.specs.declared.weighted.Weighted.{Weighted}
use Rattle.quorums.specs.Meaning.{RuleLaws}
use Rattle.quorums.specs.Thresholds.{weight, seven, stands}
use Rattle.quorums.specs.WeightedRules.{weighted, made_weighted}
use Rattle.quorums.specs.Weights.{total}
use Rattle.quorums.specs.Weighing.{weighing_lawful}

-- the test says that each weight is light
light : (ws : List ℕ) → Decides (list_all (λ w. leb w 15) ws) (All (λ w. w ≤ 15) ws)
light ws = (
  λ e. All-weaker (λ w. leb w 15 ≡ true) (λ w. w ≤ 15) (λ w. leb-true w 15) ws (AllPass-from_list_all (λ w. leb w 15) ws e),
  λ h. list_all-from_AllPass (λ w. leb w 15) ws (All-weaker (λ w. w ≤ 15) (λ w. leb w 15 ≡ true) (λ w. le-leb w 15) ws h),
)

pub all_light : (ws : List ℕ) → All (λ w. w ≤ 15) ws → true ≡ list_all (λ w. leb w 15) ws
all_light ws h = sym ((light ws).1 h)

-- what the test of a rule tells of its thresholds
pub record Crossed (all promise choose : ℕ) : Type 0 where
  pub promise_most : promise ≤ all
  pub choose_most : choose ≤ all
  pub over : all < promise + choose

pub stands_crossed : (n : ℕ) (ws : List ℕ) (a b : ℕ) → T (stands n ws a b) → Crossed (total (weight ws) n) a b
stands_crossed n ws a b t = record { promise_most = grind (arith, nat_tests); choose_most = grind (arith, nat_tests); over = grind (arith, nat_tests) }

-- the maker keeps the weights that it is given
pub weighted_made : (ws vs : List ℕ) (a b : ℕ) → vs ≡ seven ws → (ok : T (stands (length ws) vs a b))
    → Ok (record { n = length ws; weights = vs; promise = a; choose = b; ok = ok }) ≡ made_weighted ws a b
weighted_made ws vs a b kept ok =
    sym (ap (λ o. ok_or o NoRule) (made_by (stands (length ws) vs a b) _ ok))
    ∙ ap (λ us. ok_or (made_if (stands (length ws) us a b) (λ t. record { n = length ws; weights = us; promise = a; choose = b; ok = t })) NoRule) kept

pub weighted_lawful : RuleLaws weighted
weighted_lawful =
    let crosses : (q : Weighted) → Crossed (total (weight q.weights) q.n) q.promise q.choose
    = λ q. stands_crossed q.n q.weights q.promise q.choose q.ok in
    weighing_lawful (λ q. q.n) (λ q. weight q.weights) (λ q. q.promise) (λ q. q.choose)
    (λ q. (crosses q).promise_most) (λ q. (crosses q).choose_most) (λ q. (crosses q).over)
