-- The due items: one of them, all of them, and what is left when one was taken. Assumes nothing.
use Rattle.std.proofs.Common.{◌≡◌, ℕ, zero, suc, ◌+◌, ◌<◌, ◌≤◌, Bool, true, false, cond, ◌⊎◌, List, [], ◌∷◌, ◌++◌, map, filter, sym, refl, ap, ◌∙◌, inl, inr, ⊎_elim, arith}
use Rattle.std.specs.List.{range_with_len, All}
use Rattle.std.proofs.lemmas.List.Elements.{All-cons, All-head, All-tail}
use Rattle.std.proofs.lemmas.Bool.{cases_eq, both_ways}
use Rattle.posts.specs.Meaning.{Item}
use Rattle.machine.specs.Law.{Without, here, there}

-- P holds of some element
abbrev pub Among : {X : Type 0} → (X → Type 0) → List X → Type 0
Among P [] = ⊥
Among P (x ∷ xs) = P x ⊎ Among P xs

module _ {X : Type 0} (P : X → Type 0) where
  pub among_left : (xs ys : List X) → Among P xs → Among P (xs ++ ys)
  among_left [] ys h = absurd h
  among_left (x ∷ xs) ys (inl h) = inl h
  among_left (x ∷ xs) ys (inr h) = inr (among_left xs ys h)

  pub among_right : (xs ys : List X) → Among P ys → Among P (xs ++ ys)
  among_right [] ys h = h
  among_right (x ∷ xs) ys h = inr (among_right xs ys h)

  pub among_weaker : (R : X → Type 0) → ((x : X) → P x → R x) → (xs : List X) → Among P xs → Among R xs
  among_weaker R f [] h = h
  among_weaker R f (x ∷ xs) (inl h) = inl (f x h)
  among_weaker R f (x ∷ xs) (inr h) = inr (among_weaker R f xs h)

  pub among_map : {Y : Type 0} (f : Y → X) (ys : List Y) → Among (λ y. P (f y)) ys → Among P (map f ys)
  among_map f [] h = h
  among_map f (y ∷ ys) (inl h) = inl h
  among_map f (y ∷ ys) (inr h) = inr (among_map f ys h)

-- who passes the test is among those kept by it
pub among_kept : (test : ℕ → Bool) (j : ℕ) → test j ≡ true → (xs : List ℕ) → Among (λ i. i ≡ j) xs → Among (λ i. i ≡ j) (filter test xs)
among_kept test j ok [] h = h
among_kept test j ok (x ∷ xs) h = go (test x) refl (⊎_elim inl (λ r. inr (among_kept test j ok xs r)) h)
  where
    go : (t : Bool) → test x ≡ t → (x ≡ j) ⊎ Among (λ i. i ≡ j) (filter test xs) → Among (λ i. i ≡ j) (cond t (x ∷ filter test xs) (filter test xs))
    go true is h = h
    go false is (inl e) = absurd (both_ways _ (ap test (sym e) ∙ is) ok)
    go false is (inr h) = h

pub among_counting : (from many j : ℕ) → from ≤ j → j < from + many → Among (λ i. i ≡ j) (range_with_len from many)
among_counting from zero j low high = absurd (omega arith)
among_counting from (suc many) j low high = ⊎_elim (λ e. inl e) (λ ne. inr (among_counting (from + 1) many j (omega arith) (omega arith))) (cases_eq from j)

module _ (P : Item → Type 0) {item : Item} where
  -- all without one are still all, and the one was one of them
  pub all_without : {due left : List Item} → Without item due left → All P due → P item × All P left
  all_without here all = (All-head P _ _ all, All-tail P _ _ all)
  all_without (there w) all = let rest = all_without w (All-tail P _ _ all) in (rest.0, All-cons P _ _ (All-head P _ _ all) rest.1)

  -- some one is left, or it is the one that was taken
  pub among_without : {due left : List Item} → Without item due left → Among P due → P item ⊎ Among P left
  among_without here h = h
  among_without (there w) (inl h) = inr (inl h)
  among_without (there w) (inr h) = ⊎_elim inl (λ l. inr (inr l)) (among_without w h)
