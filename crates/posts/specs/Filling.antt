-- A line while the addressees are gone through. Assumes nothing.
use Rattle.std.specs.Prelude.{◌≡◌, ℕ, ◌+◌, ◌<◌, ◌≤◌, min, Bool, true, false, cond, ◌&&◌, List, [], ◌∷◌, ◌++◌, length, count_by, filter, nat_lt, refl}
use Rattle.std.proofs.Common.{ap, ◌∙◌, append_assoc, arith, length-append}
use Rattle.std.specs.List.{range_with_len}
use Rattle.std.proofs.lemmas.List.{length_push, map_push, length-map}
use Rattle.std.proofs.lemmas.Bool.{and_from, and_left, and_right, lt-ltb, le-ltb, ltb-true, ltb-false}
use Rattle.posts.specs.Meaning.{Item, sendable, addressed}
use Rattle.posts.specs.Lines.{served}
use Rattle.posts.specs.Midway.{offered, Filling}
use Rattle.posts.specs.Kept.{kept_yes, kept_no, count_yes, count_no}

module _ (xs : List Item) (frame : List ℕ) (to : ℕ → Bool) where
  module _ (q : ℕ) (ys zs : List Item) (f : Filling xs frame to q ys) where
    passed_by : served xs frame to q ≡ false → length ys ≡ min 64 (length xs + count_by to (range_with_len 0 (q + 1))) → zs ≡ ys → Filling xs frame to (q + 1) zs
    passed_by e size same =
        record { list = rw (kept_no (served xs frame to) q e) (same ∙ f.list); size = ap length same ∙ size }

    -- an addressee is added, or passed by
    pub filling_more : sendable frame ≡ true → zs ≡ offered frame to q ys → Filling xs frame to (q + 1) zs
    filling_more fit is = at (to q) refl (nat_lt (length ys) 64) refl is
      where
        at : (asked : Bool) → to q ≡ asked → (room : Bool) → nat_lt (length ys) 64 ≡ room → zs ≡ cond (asked && room) (ys ++ addressed frame q ∷ []) ys → Filling xs frame to (q + 1) zs
        at false e room r same = passed_by (and_right (sendable frame) _ (and_left (to q) _ e)) (rw (count_no to q e) f.size) same
        at true e false r same =
            let full = ltb-false (length ys) 64 r in
            let size = f.size in
            let more = count_yes to q e in
            let past : 64 ≤ length xs + count_by to (range_with_len 0 q) = omega arith in
            passed_by (and_right (sendable frame) _ (and_right (to q) _ (le-ltb _ 64 past))) (omega arith) same
        at true e true r pushed =
            let room = ltb-true (length ys) 64 r in
            let size = f.size in
            let more = count_yes to q e in
            let long = length_push ys (addressed frame q) in
            let longer = ap length pushed in
            let below : length xs + count_by to (range_with_len 0 q) < 64 = omega arith in
            let keeps : served xs frame to q ≡ true = and_from (sendable frame) _ fit (and_from (to q) _ e (lt-ltb _ 64 below)) in
            record {
              list = pushed ∙ rw (kept_yes (served xs frame to) q keeps, map_push, ← append_assoc) (ap (λ l. l ++ addressed frame q ∷ []) f.list);
              size = omega arith;
            }

  -- how many were added
  pub filling_count : (q : ℕ) (ys : List Item) → Filling xs frame to q ys → length ys ≡ length xs + length (filter (served xs frame to) (range_with_len 0 q))
  filling_count q ys f = ap length f.list ∙ simp (length-append, length-map)
