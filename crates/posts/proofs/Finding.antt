-- The k-th item for an addressee, by a search that counts those it passes over. Assumes nothing.
use Rattle.std.proofs.Common.{◌≡◌, ℕ, suc, ◌+◌, ◌≤◌, true, cond, List, [], ◌∷◌, length, take, Some, None, Option, sym, subst, ap, ◌∙◌, arith}
use Rattle.std.specs.Iterator.{Yields, YieldsThen, AlwaysYields}
use Rattle.std.specs.List.{FoldsTo}
use Rattle.std.specs.Option.{MatchOption}
use Rattle.std.proofs.lemmas.Bool.{eqb-true}
use Rattle.std.proofs.lemmas.Iterator.{YieldsList}
use Rattle.std.proofs.lemmas.List.Sums.{sum_by-cons}
use Rattle.posts.specs.Meaning.{Item, waiting, is_for}
use Rattle.posts.specs.Places.{Place, Finds}

module _ {A : Type 0} (q : ℕ) where
  -- what holds of all items where a search for the k-th ended behind n of them, at an item or at the end
  abbrev Ended : List Item → ℕ → ℕ → Option A → Type 0
  Ended all k n o = MatchOption o (waiting q all ≤ k) (λ _. Place all q k n)

  -- with one more item in front, which was passed over
  past : (x : Item) (xs : List Item) (k j n : ℕ) (o : Option A) → k ≡ cond (is_for q x) 1 0 + j → Ended xs j n o → Ended (x ∷ xs) k (suc n) o
  past x xs k j n o is e = at o e
    where
      more : (ys : List Item) → waiting q (x ∷ ys) ≡ cond (is_for q x) 1 0 + waiting q ys
      more ys = sum_by-cons (λ y. cond (is_for q y) 1 0) x ys

      at : (o : Option A) → Ended xs j n o → Ended (x ∷ xs) k (suc n) o
      at None e = omega (arith, more xs)
      at (Some y) e = record { within = omega (arith, e.within); addressee = e.addressee; earlier = omega (arith, e.earlier, more (take n xs)) }

  -- so the place that the search answers is the one looked for
  answered : (all : List Item) (k n : ℕ) (o : Option A) (r : Option ℕ) (W : A → Type 0) → MatchOption o (r ≡ None) (λ x. (r ≡ Some n) × W x) → Ended all k n o → Finds all q k r
  answered all k n None r W is e = subst (Finds all q k) (sym is) e
  answered all k n (Some x) r W is e = subst (Finds all q k) (sym is.0) e

-- At each item the search passes over it or stops there. `Left p k` says that in the state p there are k for q to pass over.
module _ {S A F : Type 0} (steps : S → Option A → S → Type 0) (v : A → Item) (passes stops : F → A → F → Type 0) (q : ℕ) (Left : F → ℕ → Type 0)
    (passed : (p : F) (k : ℕ) (x : A) (h : F) → Left p k → passes p x h → (j : ℕ) × Left h j × (k ≡ cond (is_for q (v x)) 1 0 + j))
    (stopped : (p : F) (k : ℕ) (x : A) (h : F) → Left p k → stops p x h → (is_for q (v x) ≡ true) × (k ≡ 0)) where
  -- the search ended, with r for its answer, behind n items
  module _ (r : Option ℕ) (n : ℕ) where
    abbrev Last : F → Option A → Type 0
    Last p o = MatchOption o (r ≡ None) (λ x. (r ≡ Some n) × ((h : F) × stops p x h))

    here : (all : List Item) (s u : S) (p : F) (k : ℕ) (o : Option A) → AlwaysYields steps v s all → steps s o u → Left p k → Last p o → Ended q all k 0 o
    here [] s u p k None all step left last = omega arith
    here [] s u p k (Some x) all step left last = absurd (all x u step)
    here (z ∷ zs) s u p k None all step left last = absurd (all.0 u step)
    here (z ∷ zs) s u p k (Some x) all step left last =
        let at = stopped p k x last.1.0 left last.1.1 in
        record { within = omega arith; addressee = eqb-true z.to q (ap (is_for q) (sym (all.1 x u step).0) ∙ at.0); earlier = sym at.1 }

    ended : (xs : List A) (all : List Item) (s t u : S) (p h : F) (k : ℕ) (o : Option A) → AlwaysYields steps v s all → Yields steps s xs t → steps t o u
        → Left p k → FoldsTo passes p xs h → Last h o → Ended q all k (length xs) o
    ended [] zs s t u p h k o all ran step left calls last = here zs s u h k o all (subst (λ w. steps w o u) (sym ran) step) (subst (λ w. Left w k) calls left) last
    ended (x ∷ xs) [] s t u p h k o all ran step left calls last = absurd (all x ran.0 ran.1)
    ended (x ∷ xs) (z ∷ zs) s t u p h k o all ran step left calls last =
        let next = all.1 x ran.0 ran.1 in
        let less = passed p k x calls.0 left calls.1 in
        past q z zs k less.0 (length xs) o (less.2 ∙ ap (λ w. cond (is_for q w) 1 0 + less.0) next.0)
        (ended xs zs ran.0 t u calls.0 h less.0 o next.1 ran.2 step less.1 calls.2 last)

  pub finds : (all : List Item) (k : ℕ) (s u : S) (p : F) (r : Option ℕ)
      → (xs : List A) × (o : Option A) × (h : F) × YieldsThen steps s xs o u × FoldsTo passes p xs h × MatchOption o (r ≡ None) (λ x. (r ≡ Some (length xs)) × ((j : F) × stops h x j))
      → YieldsList steps v s all → Left p k → Finds all q k r
  finds all k s u p r (xs, o, h, ran, calls, last) e left =
      answered q all k (length xs) o r (λ x. (j : F) × stops h x j) last (ended r (length xs) xs all s ran.0 u p h k o e.runs ran.1 ran.2 left calls last)
