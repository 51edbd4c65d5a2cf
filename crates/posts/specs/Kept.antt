-- The addressees kept, one after another. Assumes nothing.
use Rattle.std.specs.Prelude.{◌≡◌, ℕ, ◌+◌, Bool, true, false, cond, [], ◌∷◌, ◌++◌, length, count_by, filter}
use Rattle.std.proofs.Common.{ap, sym, ◌∙◌, append-nil, arith}
use Rattle.std.specs.List.{range_with_len}
use Rattle.std.proofs.lemmas.List.FromFn.{map-range_with_len_more}
use Rattle.std.proofs.lemmas.List.Elements.{filter-append}
use Rattle.std.proofs.lemmas.List.{map-id, length_push}
use Rattle.std.proofs.lemmas.List.Sums.{length-filter}

module _ (p : ℕ → Bool) (q : ℕ) where
  kept_more : filter p (range_with_len 0 (q + 1)) ≡ filter p (range_with_len 0 q) ++ cond (p q) (q ∷ []) []
  kept_more =
      let more = map-range_with_len_more (λ x. x) 0 q q (omega arith) in
      ap (filter p) (simp map-id at more) ∙ filter-append p (range_with_len 0 q) (q ∷ [])

  pub kept_yes : p q ≡ true → filter p (range_with_len 0 (q + 1)) ≡ filter p (range_with_len 0 q) ++ q ∷ []
  kept_yes e = rw e at kept_more

  pub kept_no : p q ≡ false → filter p (range_with_len 0 (q + 1)) ≡ filter p (range_with_len 0 q)
  kept_no e = let more = rw e at kept_more in more ∙ append-nil _

  pub count_yes : p q ≡ true → count_by p (range_with_len 0 (q + 1)) ≡ count_by p (range_with_len 0 q) + 1
  count_yes e = sym (length-filter p _) ∙ ap length (kept_yes e) ∙ length_push _ q ∙ ap (λ n. n + 1) (length-filter p _)

  pub count_no : p q ≡ false → count_by p (range_with_len 0 (q + 1)) ≡ count_by p (range_with_len 0 q)
  count_no e = sym (length-filter p _) ∙ ap length (kept_no e) ∙ length-filter p _
