-- A put one addressee after another: what is passed by, added and refused, and how many are addressed. Assumes nothing.
use Rattle.std.specs.Prelude.{◌≡◌, ℕ, zero, suc, ◌+◌, ◌-◌, ◌/◌, ◌%◌, ◌^◌, ◌<◌, ◌≤◌, min, Bool, true, false, cond, List, [], ◌∷◌, ◌++◌, map, length, count_by, nat_lt, ◌==◌, count_ones, refl}
use Rattle.std.proofs.Common.{ap, sym, ◌∙◌, append-nil, arith, add-one, div-one}
use Rattle.std.specs.Int.Count.{ones_step}
use Rattle.std.specs.List.{range_with_len}
use Rattle.std.proofs.lemmas.Nat.{shr-shr, shr_below, mod_below, ones-le}
use Rattle.std.proofs.lemmas.List.{nil_from_length}
use Rattle.std.proofs.lemmas.List.Sums.{sum_by-cons}
use Rattle.std.proofs.lemmas.Bool.{and_left, and_right, le-ltb, ltb-false}
use Rattle.std.proofs.lemmas.Bool.Decides.{nat_tests}
use Rattle.model.specs.Sets.{member}
use Rattle.posts.specs.Meaning.{Item, PostMeaning, PostLaws, kept, sendable, addressed}
use Rattle.posts.specs.Lines.{served, line_items, line_means, Queues}
use Rattle.posts.specs.Shelves.{welcome, shelf_items, shelf_means, latest, Replaces}
use Rattle.posts.specs.Midway.{Filling, with_room, Stocking}
use Rattle.posts.specs.Kept.{kept_no, count_yes, count_no}
use Rattle.posts.specs.Putting.{puts_refused, list_kept}
use Rattle.posts.specs.Filling.{filling_more}
use Rattle.posts.specs.LinesLemmas.{line_lawful}
use Rattle.posts.specs.Stocking.{shelf_lawful, stocking_more}
use Rattle.posts.specs.declared.line.Line.{Line}
use Rattle.posts.specs.declared.shelf.Shelf.{Shelf}
use Rattle.posts.proofs.Parcels.{tray_few}

module _ (xs : List Item) (frame : List ℕ) (to : ℕ → Bool) where
  pub filling_none : length xs ≤ 64 → Filling xs frame to 0 xs
  filling_none few = record { list = sym (append-nil xs); size = omega arith }

  module _ (q : ℕ) (ys zs : List Item) (f : Filling xs frame to q ys) where
    filling_skip : served xs frame to q ≡ false → length ys ≡ min 64 (length xs + count_by to (range_with_len 0 (q + 1))) → zs ≡ ys → Filling xs frame to (q + 1) zs
    filling_skip e size same =
        record { list = rw (kept_no (served xs frame to) q e) (same ∙ f.list); size = ap length same ∙ size }

    pub filling_no : to q ≡ false → zs ≡ ys → Filling xs frame to (q + 1) zs
    filling_no e = filling_skip (and_right (sendable frame) _ (and_left (to q) _ e)) (rw (count_no to q e) f.size)

    pub filling_full : to q ≡ true → nat_lt (length ys) 64 ≡ false → zs ≡ ys → Filling xs frame to (q + 1) zs
    filling_full e none =
        let full = ltb-false (length ys) 64 none in
        let size = f.size in
        let more = count_yes to q e in
        let past : 64 ≤ length xs + count_by to (range_with_len 0 q) = omega arith in
        filling_skip (and_right (sendable frame) _ (and_right (to q) _ (le-ltb _ 64 past))) (omega arith)

    pub filling_yes : sendable frame ≡ true → to q ≡ true → nat_lt (length ys) 64 ≡ true → zs ≡ ys ++ addressed frame q ∷ [] → Filling xs frame to (q + 1) zs
    filling_yes fit e some pushed = filling_more xs frame to q ys zs f fit (rw (e, some) pushed)

-- a frame that cannot be carried
pub list_refused : {P : Type 0} (m : PostMeaning P) (before : P) (frame : List ℕ) (to : ℕ → Bool) → PostLaws m → sendable frame ≡ false → m.items before ≡ m.items before ++ map (addressed frame) (kept m before frame to)
list_refused m before frame to laws unfit =
    let puts = puts_refused m before frame to laws unfit in
    rw (nil_from_length (kept m before frame to) (sym puts.count)) (sym (append-nil (m.items before)))

module _ (before : Line) (frame : List ℕ) (to : ℕ → Bool) where
  pub queues_refused : sendable frame ≡ false → Queues before frame to before
  queues_refused unfit = record { list = list_refused line_means before frame to line_lawful unfit }

  pub queues_filled : (after : Line) (q : ℕ) → q ≡ 8 → Filling (line_items before) frame to q (line_items after) → Queues before frame to after
  queues_filled after q all f = record { list = list_kept line_means before frame to after 0 q all f.list }

latest_all : (zs : List Item) → length zs ≤ 64 → latest zs ≡ zs
latest_all zs few = let none : length zs - 64 ≡ 0 = omega arith in rw none refl

module _ (xs : List Item) (frame : List ℕ) (to : ℕ → Bool) where
  pub stocking_none : length xs ≤ 64 → Stocking xs frame to 0 xs
  stocking_none few = record { list = rw append-nil (sym (latest_all xs few)) }

  module _ (q : ℕ) (ys zs : List Item) (f : Stocking xs frame to q ys) where
    pub stocking_no : to q ≡ false → zs ≡ ys → Stocking xs frame to (q + 1) zs
    stocking_no e same =
        record { list = same ∙ rw (kept_no (welcome frame to) q (and_right (sendable frame) (to q) e)) f.list }

    pub stocking_yes : sendable frame ≡ true → to q ≡ true → zs ≡ with_room ys ++ addressed frame q ∷ [] → Stocking xs frame to (q + 1) zs
    stocking_yes fit e pushed = stocking_more xs frame to fit q ys zs f (rw e pushed)

module _ (before : Shelf) (frame : List ℕ) (to : ℕ → Bool) where
  pub replaces_refused : sendable frame ≡ false → Replaces before frame to before
  replaces_refused unfit =
      record { list = sym (latest_all (shelf_items before) (tray_few before.tray)) ∙ ap latest (list_refused shelf_means before frame to shelf_lawful unfit) }

  pub replaces_stocked : (after : Shelf) (q : ℕ) → q ≡ 8 → Stocking (shelf_items before) frame to q (shelf_items after) → Replaces before frame to after
  replaces_stocked after q all f = record { list = rw all at f.list }

bit_counts : (n : ℕ) → cond (n % 2 == 1) 1 0 ≡ n % 2
bit_counts n = let small = mod_below n 2 (omega arith) in grind (arith, nat_tests)

-- the members of a set from j on, with none past j + n, are counted by the bits from j on
members_from : (set n j : ℕ) → set / 2 ^ j < 2 ^ n → count_by (member set) (range_with_len j n) ≡ count_ones (set / 2 ^ j)
members_from set zero j h = let none = ones-le 0 (set / 2 ^ j) h in omega arith
members_from set (suc n) j h =
    let bits = set / 2 ^ j in
    let half : set / 2 ^ (j + 1) ≡ bits / 2 = sym (shr-shr set j 1) in
    let rest = members_from set n (j + 1) (rw half (shr_below bits n 1 (rw add-one h))) in
    let first = sum_by-cons (λ p. cond (member set p) 1 0) j (range_with_len (j + 1) n) in
    let step = ones_step bits in
    let bit = bit_counts bits in
    let others = rw half at rest in
    omega arith

-- how many are in a set of eight
pub count_members : (set q : ℕ) → q ≡ 8 → set < 2 ^ 8 → count_by (member set) (range_with_len 0 q) ≡ count_ones set
count_members set q all small =
    let whole : set / 2 ^ 0 ≡ set = div-one set in
    members_from set q 0 (rw (whole, all) small) ∙ ap count_ones whole
