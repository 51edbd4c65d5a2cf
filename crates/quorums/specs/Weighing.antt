-- Sets of participants by weight: the laws of every rule with thresholds. Assumes nothing.
use Rattle.std.specs.Prelude.{◌≡◌, ℕ, zero, suc, ◌+◌, ◌<◌, ◌≤◌, Bool, true, false, cond, refl}
use Rattle.std.proofs.Common.{arith}
use Rattle.std.proofs.lemmas.Bool.{leb-true, le-leb}
use Rattle.std.proofs.lemmas.Bool.Decides.{nat_tests}
use Rattle.model.proofs.Masks.{sum_more}
use Rattle.quorums.specs.Meaning.{RuleLaws, Within, Everyone, Share}
use Rattle.quorums.specs.Weights.{weight_of, total, weighing}

module _ (w : ℕ → ℕ) where
  pub weight_more : (n : ℕ) (s : ℕ → Bool) → weight_of w (suc n) s ≡ weight_of w n s + cond (s n) (w n) 0
  weight_more n s = sum_more (λ i. cond (s i) (w i) 0) n

  -- a larger set weighs at least as much
  pub grows : (n : ℕ) (s t : ℕ → Bool) → Within n s t → weight_of w n s ≤ weight_of w n t
  grows zero s t in-t = omega arith
  grows (suc n) s t in-t =
      let low = grows n s t (λ i h. in-t i (omega arith)) in
      let top : s n ≡ true → t n ≡ true = in-t n (omega arith) in
      let one : cond (s n) (w n) 0 ≤ cond (t n) (w n) 0 = grind (arith, nat_tests) in
      omega (arith, weight_more n s, weight_more n t)

  -- all together weigh the total
  pub whole : (n : ℕ) (s : ℕ → Bool) → Everyone n s → weight_of w n s ≡ total w n
  whole zero s in-s = refl
  whole (suc n) s in-s =
      let low = whole n s (λ i h. in-s i (omega arith)) in
      let top : cond (s n) (w n) 0 ≡ w n = rw (in-s n (omega arith)) in
      omega (arith, weight_more n s, sum_more w n)

  -- two sets that weigh more than the total share a participant
  pub shares : (n : ℕ) (s t : ℕ → Bool) → total w n < weight_of w n s + weight_of w n t → Share n s t
  shares zero s t over = absurd (omega arith)
  shares (suc n) s t over =
      go (s n) (t n) refl refl
      (λ h. let r = shares n s t (omega (arith, weight_more n s, weight_more n t, sum_more w n)) in (r.0, omega arith, r.2, r.3))
    where
      go : (x y : Bool) → s n ≡ x → t n ≡ y → (cond (s n) (w n) 0 + cond (t n) (w n) 0 ≤ w n → Share (suc n) s t) → Share (suc n) s t
      go true true p q lower = (n, omega arith, p, q)
      go true false p q lower = lower (rw (p, q) (omega arith))
      go false y p q lower = lower (rw p (grind (arith, nat_tests)))

-- thresholds that all together reach, and that two sets reach only with more than all, make a rule
pub weighing_lawful : {Q : Type 0} (size : Q → ℕ) (w : Q → ℕ → ℕ) (a b : Q → ℕ)
    → ((q : Q) → a q ≤ total (w q) (size q)) → ((q : Q) → b q ≤ total (w q) (size q))
    → ((q : Q) → total (w q) (size q) < a q + b q) → RuleLaws (weighing size w a b)
weighing_lawful size w a b most_a most_b over =
    record {
      crossing = λ q s t p c. shares (w q) (size q) s t (omega (arith, over q, leb-true _ _ p, leb-true _ _ c));
      promises_grow = λ q s t in-t p. le-leb _ _ (omega (arith, grows (w q) (size q) s t in-t, leb-true _ _ p));
      chooses_grow = λ q s t in-t p. le-leb _ _ (omega (arith, grows (w q) (size q) s t in-t, leb-true _ _ p));
      all_promise = λ q s in-s. le-leb _ _ (omega (arith, whole (w q) (size q) s in-s, most_a q));
      all_choose = λ q s in-s. le-leb _ _ (omega (arith, whole (w q) (size q) s in-s, most_b q));
    }
