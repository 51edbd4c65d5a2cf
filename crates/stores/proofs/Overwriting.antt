-- What is read after a part of some bytes was written over. Assumes nothing.
use Rattle.std.proofs.Common.{◌≡◌, ℕ, ◌+◌, ◌≤◌, List, ◌++◌, length, take, drop, sym, refl, ap, ◌∙◌, arith, length-append, length-drop}
use borrow.Rule.Slice.PartMut.{put_mid}
use Rattle.std.proofs.lemmas.List.{length-take-le, drop_at, take_at, drop-take, drop-drop}
use Rattle.std.proofs.lemmas.Slice.{take-put_mid_below, drop-put_mid}
use Rattle.stores.specs.Parts.{overwritten}

module _ (bs w : List ℕ) (a : ℕ) (fits : a + length w ≤ length bs) where
  front : length (take a bs) ≡ a
  front = length-take-le a bs (omega arith)

  -- as std says it of a write to a part of a slice
  as_put : overwritten bs a w ≡ put_mid a (length w) bs w
  as_put = ap (λ l. take a bs ++ (w ++ l)) (sym (drop-drop (length w) a bs))

  pub length-overwritten : length (overwritten bs a w) ≡ length bs
  length-overwritten = simp (length-append, length-drop) (omega (arith, front))

  pub part_there : take (length w) (drop a (overwritten bs a w)) ≡ w
  part_there = ap (take (length w)) (drop_at (take a bs) _ a front) ∙ take_at w _ (length w) refl

  pub part_before : (b n : ℕ) → b + n ≤ a → take n (drop b (overwritten bs a w)) ≡ take n (drop b bs)
  part_before b n h = sym (drop-take b n _) ∙ ap (drop b) (ap (take (b + n)) as_put ∙ take-put_mid_below a (length w) bs w (b + n) h (omega arith)) ∙ drop-take b n bs

  pub part_after : (b n : ℕ) → a + length w ≤ b → take n (drop b (overwritten bs a w)) ≡ take n (drop b bs)
  part_after b n h = ap (take n) (ap (drop b) as_put ∙ drop-put_mid a (length w) bs w b h (omega arith) refl)
