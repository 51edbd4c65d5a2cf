-- A shelf while the addressees are gone through, and what its put has to show. Assumes nothing.
use Rattle.std.specs.Prelude.{◌≡◌, ℕ, ◌+◌, ◌-◌, ◌≤◌, Bool, true, false, cond, ◌&&◌, List, [], ◌∷◌, ◌++◌, map, length, drop, count_by, filter, nat_lt, refl}
use Rattle.std.proofs.Common.{ap, sym, ◌∙◌, append_assoc, inl, inr, arith, length-append, length-drop}
use Rattle.std.specs.List.{range_with_len}
use Rattle.std.proofs.lemmas.List.FromFn.{length-range_with_len}
use Rattle.std.proofs.lemmas.List.{length_push, map_push, drop-drop, drop-append-le, length-map}
use Rattle.std.proofs.lemmas.List.Sums.{length-filter, count_by-le-length}
use Rattle.std.proofs.lemmas.Bool.{and_parts, and_from, and_right, lt-ltb, le-ltb, cond-true, cond-false, cases_lt}
use Rattle.posts.specs.Meaning.{Item, PostLaws, Puts, sendable, addressed}
use Rattle.posts.specs.Shelves.{shelf_means, shelf_items, welcome, latest}
use Rattle.posts.specs.Midway.{with_room, stocked, Stocking}
use Rattle.posts.specs.declared.shelf.Shelf.{Shelf}
use Rattle.posts.specs.Kept.{kept_yes, kept_no}
use Rattle.posts.specs.ParcelsLemmas.{tray_sendable}
use Rattle.posts.specs.Putting.{puts_kept}

pub shelf_lawful : PostLaws shelf_means
shelf_lawful =
    record {
      offered = λ shelf frame to q e. (and_parts (sendable frame) (to q) e).1;
      carried = λ shelf frame to q e. (and_parts (sendable frame) (to q) e).0;
      frames = λ shelf. tray_sendable shelf.tray;
    }

latest_all : (zs : List Item) → length zs ≤ 64 → latest zs ≡ zs
latest_all zs few = let none : length zs - 64 ≡ 0 = omega arith in rw none refl

-- the latest with one more: room is made, and it follows
latest_push : (zs : List Item) (a : Item) → with_room (latest zs) ++ a ∷ [] ≡ latest (zs ++ a ∷ [])
latest_push zs a =
    let long = length_push zs a in
    let held = length-drop (length zs - 64) zs in
    elim (cases_lt (length zs) 64) [
      | inl few ↦
          let same = latest_all zs (omega arith) in
          let room = cond-true (nat_lt (length zs) 64) zs (drop 1 zs) (lt-ltb _ 64 few) in
          ap (λ l. with_room l ++ a ∷ []) same ∙ ap (λ l. l ++ a ∷ []) room ∙ sym (latest_all (zs ++ a ∷ []) (omega arith))
      | inr many ↦
          let k = length zs - 64 in
          let more : length (zs ++ a ∷ []) - 64 ≡ k + 1 = omega arith in
          let full : 64 ≤ length (latest zs) = omega arith in
          let room = cond-false (nat_lt (length (latest zs)) 64) (latest zs) (drop 1 (latest zs)) (le-ltb _ 64 full) ∙ drop-drop 1 k zs in
          ap (λ l. l ++ a ∷ []) room ∙ sym (ap (λ n. drop n (zs ++ a ∷ [])) more ∙ drop-append-le (k + 1) zs (a ∷ []) (omega arith))
    ]

module _ (xs : List Item) (frame : List ℕ) (to : ℕ → Bool) where
  -- an addressee is added, or passed by
  pub stocking_more : sendable frame ≡ true → (q : ℕ) (ys zs : List Item) → Stocking xs frame to q ys → zs ≡ stocked frame to q ys → Stocking xs frame to (q + 1) zs
  stocking_more fit q ys zs f is = at (to q) refl is
    where
      at : (asked : Bool) → to q ≡ asked → zs ≡ cond asked (with_room ys ++ addressed frame q ∷ []) ys → Stocking xs frame to (q + 1) zs
      at false e same =
          record { list = same ∙ rw (kept_no (welcome frame to) q (and_right (sendable frame) (to q) e)) f.list }
      at true e pushed =
          let keeps = and_from (sendable frame) (to q) fit e in
          let before = ap (λ l. with_room l ++ addressed frame q ∷ []) f.list in
          record {
            list = pushed ∙ before ∙ rw (kept_yes (welcome frame to) q keeps, map_push, ← append_assoc) (latest_push (xs ++ map (addressed frame) (filter (welcome frame to) (range_with_len 0 q))) (addressed frame q));
          }

module _ (before : Shelf) (frame : List ℕ) (to : ℕ → Bool) where
  module _ (after : Shelf) (q : ℕ) (all : q ≡ 8) (f : Stocking (shelf_items before) frame to q (shelf_items after)) where
    -- at most eight items are new, so only old ones go
    pub puts_stocked : (n : ℕ) → sendable frame ≡ true → n ≡ count_by to (range_with_len 0 q) → Puts shelf_means before frame to n after
    puts_stocked n fit count =
        let xs = shelf_items before in
        let names = filter (welcome frame to) (range_with_len 0 q) in
        let new = map (addressed frame) names in
        let long = length-append xs new in
        let each = length-map names (addressed frame) in
        let few = length-filter (welcome frame to) (range_with_len 0 q) in
        let fewer = count_by-le-length (welcome frame to) (range_with_len 0 q) in
        let eight = length-range_with_len 0 q in
        let k = length (xs ++ new) - 64 in
        let answer = count ∙ sym (length-filter to (range_with_len 0 q)) ∙ ap (λ b. length (filter (λ p. b && to p) (range_with_len 0 q))) (sym fit) in
        puts_kept shelf_means before frame to after n k q all fit (f.list ∙ drop-append-le k xs new (omega arith)) answer
