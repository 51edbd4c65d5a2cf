-- What a put has to show. Assumes nothing.
use Rattle.std.specs.Prelude.{◌≡◌, ℕ, zero, suc, Bool, true, false, List, [], ◌∷◌, ◌++◌, map, length, drop, filter, refl}
use Rattle.std.proofs.Common.{sym, ◌∙◌, append-nil}
use Rattle.std.specs.List.{range_with_len}
use Rattle.std.proofs.lemmas.Bool.{both_ways, cond-false}
use Rattle.posts.specs.Meaning.{Item, PostMeaning, PostLaws, Thinned, end, stays, goes, Puts, kept, sendable, addressed}

pub thinned_drop : (k : ℕ) (xs : List Item) → Thinned (drop k xs) xs
thinned_drop zero [] = end
thinned_drop zero (x ∷ xs) = stays (thinned_drop zero xs)
thinned_drop (suc k) [] = end
thinned_drop (suc k) (x ∷ xs) = goes (thinned_drop k xs)

pub kept_none : (p : ℕ → Bool) → ((q : ℕ) → p q ≡ false) → (qs : List ℕ) → filter p qs ≡ []
kept_none p none [] = refl
kept_none p none (q ∷ qs) = cond-false (p q) _ _ (none q) ∙ kept_none p none qs

module _ {P : Type 0} (m : PostMeaning P) (before : P) (frame : List ℕ) (to : ℕ → Bool) where
  -- a put that is kept for nobody
  module _ (nobody : (q : ℕ) → m.keeps before frame to q ≡ false) where
    none : kept m before frame to ≡ []
    none = kept_none (m.keeps before frame to) nobody (range_with_len 0 8)

    list_nobody : m.items before ≡ m.items before ++ map (addressed frame) (kept m before frame to)
    list_nobody = rw none (sym (append-nil (m.items before)))

    pub puts_nobody : Puts m before frame to 0 before
    puts_nobody =
        record {
          left = m.items before;
          thinned = thinned_drop 0 (m.items before);
          list = list_nobody;
          count = rw none refl;
          refused = λ _. refl;
        }

  -- a frame that cannot be carried
  not_carried : PostLaws m → sendable frame ≡ false → (q : ℕ) → m.keeps before frame to q ≡ false
  not_carried laws unfit q = not_kept (m.keeps before frame to q) refl
    where
      not_kept : (b : Bool) → m.keeps before frame to q ≡ b → b ≡ false
      not_kept false e = refl
      not_kept true e = absurd (both_ways (sendable frame) unfit (laws.carried before frame to q e))

  pub puts_refused : PostLaws m → sendable frame ≡ false → Puts m before frame to 0 before
  puts_refused laws unfit = puts_nobody (not_carried laws unfit)

  -- all the addressees have been gone through: the oldest k are gone, and those kept follow
  pub list_kept : (after : P) (k q : ℕ) → q ≡ 8 → m.items after ≡ drop k (m.items before) ++ map (addressed frame) (filter (m.keeps before frame to) (range_with_len 0 q)) → m.items after ≡ drop k (m.items before) ++ map (addressed frame) (kept m before frame to)
  list_kept after k q all list = rw all at list

  pub puts_kept : (after : P) (n k q : ℕ) → q ≡ 8 → sendable frame ≡ true → m.items after ≡ drop k (m.items before) ++ map (addressed frame) (filter (m.keeps before frame to) (range_with_len 0 q)) → n ≡ length (filter (m.keeps before frame to) (range_with_len 0 q)) → Puts m before frame to n after
  puts_kept after n k q all fit list count =
      record {
        left = drop k (m.items before);
        thinned = thinned_drop k (m.items before);
        list = list_kept after k q all list;
        count = rw all at count;
        refused = λ unfit. absurd (both_ways (sendable frame) unfit fit);
      }
