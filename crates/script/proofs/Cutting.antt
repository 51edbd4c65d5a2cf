-- Cutting bytes at a mark: one piece after the other, and that these pieces are the only ones. Assumes nothing.
use Rattle.std.proofs.Common.{◌≡◌, ℕ, zero, suc, ◌+◌, ◌<◌, Bool, true, false, cond, eqb, List, [], ◌∷◌, ◌++◌, length, get_or, take, drop, Some, None, sym, refl, ap, ◌∙◌, add-one, arith}
use Rattle.std.specs.Str.Iter.{LacksByte}
use Rattle.std.specs.List.{join_with_byte, All, slice_split, onto_first, position}
use Rattle.std.proofs.lemmas.Bool.{eqb-true, eqb-false, ne_eqb, eq-eqb}
use Rattle.std.proofs.lemmas.List.Elements.{All-nil, All-cons, All-head, All-tail, All-from_get_or}
use Rattle.std.proofs.lemmas.Bool.Decides.{nat_tests}
use Rattle.std.proofs.lemmas.Grind.{common_steps}
use Rattle.std.proofs.lemmas.List.Sums.{fails_before_first}
use Rattle.std.proofs.lemmas.List.Quantifiers.{position-Some}
use Rattle.std.proofs.lemmas.List.Splits.{slice_split_none, slice_split_at, join_with_byte-slice_split}
use Rattle.std.proofs.Math.Seq.{split_at}
use Rattle.script.specs.Pieces.{front, others, cut, CutAt}

-- the pieces are those that std's `split` gives
split_more : (t : Bool) (b : ℕ) (p : List ℕ) (ps : List (List ℕ)) → cond t [] (b ∷ p) ∷ cond t (p ∷ ps) ps ≡ cond t ([] ∷ p ∷ ps) (onto_first b (p ∷ ps))
split_more true b p ps = refl
split_more false b p ps = refl

cut_is_split : (mark : ℕ) (bs : List ℕ) → cut mark bs ≡ slice_split (λ b. eqb b mark) bs
cut_is_split mark [] = refl
cut_is_split mark (b ∷ bs) = split_more (eqb b mark) b (front mark bs) (others mark bs) ∙ ap (λ ps. cond (eqb b mark) ([] ∷ ps) (onto_first b ps)) (cut_is_split mark bs)

-- the first piece ends at the first mark
module _ (mark : ℕ) (bs : List ℕ) where
  abbrev at_mark : ℕ → Bool
  at_mark b = eqb b mark

  pub split_found : (at : ℕ) → Some at ≡ position at_mark bs → (bs ≡ take at bs ++ mark ∷ drop (at + 1) bs) × (cut mark bs ≡ take at bs ∷ cut mark (drop (at + 1) bs))
  split_found at e =
      let found = position-Some at_mark bs at 0 (sym e) in
      let here : get_or bs at 0 ≡ mark = eqb-true (get_or bs at 0) mark found.1 in
      let parts : bs ≡ take at bs ++ mark ∷ drop (at + 1) bs = rw (add-one, ← here) (split_at bs at 0 found.0) in
      let none : All (λ b. at_mark b ≡ false) (take at bs) = All-from_get_or (λ b. at_mark b ≡ false) (take at bs) 0 (λ k l. grind (arith, common_steps, found.2 k)) in
      (parts, ap (cut mark) parts ∙ cut_is_split mark _ ∙ slice_split_at at_mark (take at bs) mark (drop (at + 1) bs) none (eq-eqb mark mark refl) ∙ ap (λ ps. take at bs ∷ ps) (sym (cut_is_split mark (drop (at + 1) bs))))

  pub split_missing : None ≡ position at_mark bs → cut mark bs ≡ bs ∷ []
  split_missing e = cut_is_split mark bs ∙ slice_split_none at_mark bs (All-from_get_or (λ b. at_mark b ≡ false) bs 0 (λ k l. grind (arith, nat_tests, fails_before_first at_mark bs k 0)))

-- none holds a mark
lacks_cons : (mark b : ℕ) (bs : List ℕ) → (b ≡ mark → ⊥) → LacksByte mark bs → LacksByte mark (b ∷ bs)
lacks_cons mark b bs n h zero l e = n e
lacks_cons mark b bs n h (suc k) l e = h k (omega arith) e

clean_more : (mark b : ℕ) (p : List ℕ) (ps : List (List ℕ)) (t : Bool) → eqb b mark ≡ t → All (LacksByte mark) (p ∷ ps) → All (LacksByte mark) (cond t [] (b ∷ p) ∷ cond t (p ∷ ps) ps)
clean_more mark b p ps true e h = All-cons (LacksByte mark) [] (p ∷ ps) (λ k l. absurd (omega arith)) h
clean_more mark b p ps false e h = All-cons (LacksByte mark) (b ∷ p) ps (lacks_cons mark b p (eqb-false b mark e) (All-head (LacksByte mark) p ps h)) (All-tail (LacksByte mark) p ps h)

clean : (mark : ℕ) (bs : List ℕ) → All (LacksByte mark) (cut mark bs)
clean mark [] = All-cons (LacksByte mark) [] [] (λ k l. absurd (omega arith)) (All-nil (LacksByte mark))
clean mark (b ∷ bs) = clean_more mark b (front mark bs) (others mark bs) (eqb b mark) refl (clean mark bs)

-- pieces with no mark in them, put together and cut again
none_is : (mark : ℕ) (bs : List ℕ) → LacksByte mark bs → All (λ b. eqb b mark ≡ false) bs
none_is mark bs h = All-from_get_or (λ b. eqb b mark ≡ false) bs 0 (λ i l. ne_eqb (get_or bs i 0) mark (h i l))

rejoined : (mark : ℕ) (ps : List (List ℕ)) → 0 < length ps → All (LacksByte mark) ps → slice_split (λ b. eqb b mark) (join_with_byte mark ps) ≡ ps
rejoined mark [] l h = absurd (omega arith)
rejoined mark (p ∷ []) l h = slice_split_none (λ b. eqb b mark) p (none_is mark p (All-head (LacksByte mark) p [] h))
rejoined mark (p ∷ q ∷ ps) l h =
    slice_split_at (λ b. eqb b mark) p mark (join_with_byte mark (q ∷ ps)) (none_is mark p (All-head (LacksByte mark) p (q ∷ ps) h)) (eq-eqb mark mark refl)
    ∙ ap (λ xs. p ∷ xs) (rejoined mark (q ∷ ps) (omega arith) (All-tail (LacksByte mark) p (q ∷ ps) h))

cut_rejoined : (mark : ℕ) (ps : List (List ℕ)) → 0 < length ps → All (LacksByte mark) ps → cut mark (join_with_byte mark ps) ≡ ps
cut_rejoined mark ps l h = cut_is_split mark (join_with_byte mark ps) ∙ rejoined mark ps l h

pub cut_law : (mark : ℕ) (bs : List ℕ) → CutAt mark bs (cut mark bs)
cut_law mark bs = record {
  whole = ap (join_with_byte mark) (cut_is_split mark bs) ∙ join_with_byte-slice_split mark bs;
  clean = clean mark bs;
  only = λ qs l h e. sym (cut_rejoined mark qs l h) ∙ ap (cut mark) e;
}
