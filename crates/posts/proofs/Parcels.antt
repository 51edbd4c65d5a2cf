-- Parcels in a list, the items that they mean, and how many a tray holds. Assumes nothing.
use Rattle.std.specs.Prelude.{◌≡◌, ℕ, ◌+◌, ◌<◌, ◌≤◌, true, false, List, [], ◌∷◌, ◌++◌, map, length, take, slice_index_or}
use Rattle.std.proofs.Common.{ap, sym, ◌∙◌}
use Rattle.std.specs.List.{remove}
use Rattle.std.proofs.lemmas.List.{get_or-map, take_all, map-append, take-map, drop-map, map_push, length-map}
use Rattle.std.proofs.lemmas.List.Sums.{count_by_more_yes, count_by_more_no}
use Rattle.posts.specs.Meaning.{Item, no_item, is_for, waiting}
use Rattle.posts.specs.Parcels.{meant}
use Rattle.posts.specs.Trays.{tray_items}
use Rattle.posts.specs.declared.tray.Tray.{Tray}
use Rattle.posts.specs.declared.parcel.Parcel.TheInside.{Inside}

module _ (ps : List Inside) (i : ℕ) where
  -- the item that a parcel read at i means
  pub meant_at : (p : Inside) → i < length ps → p ≡ slice_index_or ps i p → slice_index_or (map meant ps) i no_item ≡ meant p
  meant_at p h read = get_or-map meant ps i p no_item h ∙ ap meant (sym read)

  pub within_map : i < length ps → i < length (map meant ps)
  within_map h = simp length-map h

  -- one more parcel, for q or not
  pub waiting_yes : (q : ℕ) (p : Inside) → i < length ps → p ≡ slice_index_or ps i p → true ≡ is_for q (meant p) → waiting q (take (i + 1) (map meant ps)) ≡ waiting q (take i (map meant ps)) + 1
  waiting_yes q p h read for = count_by_more_yes (is_for q) (map meant ps) i no_item (within_map h) (ap (is_for q) (meant_at p h read) ∙ sym for)

  pub waiting_no : (q : ℕ) (p : Inside) → i < length ps → p ≡ slice_index_or ps i p → false ≡ is_for q (meant p) → waiting q (take (i + 1) (map meant ps)) ≡ waiting q (take i (map meant ps))
  waiting_no q p h read for = count_by_more_no (is_for q) (map meant ps) i no_item (within_map h) (ap (is_for q) (meant_at p h read) ∙ sym for)

  pub waiting_all : (q : ℕ) → length ps ≤ i → waiting q (take i (map meant ps)) ≡ waiting q (map meant ps)
  waiting_all q h = ap (waiting q) (take_all i (map meant ps) (simp length-map h))

-- taking a parcel out takes its item out
pub meant_removed : (ps : List Inside) (i : ℕ) → map meant (remove ps i) ≡ remove (map meant ps) i
meant_removed ps i = simp (map-append, take-map, drop-map)

-- a parcel pushed is its item pushed
pub meant_push : (ps qs : List Inside) (p : Inside) (item : Item) → qs ≡ ps ++ p ∷ [] → meant p ≡ item → map meant qs ≡ map meant ps ++ item ∷ []
meant_push ps qs p item pushed is = ap (map meant) pushed ∙ map_push meant ps p ∙ ap (λ x. map meant ps ++ x ∷ []) is

-- a tray holds at most 64 items
pub tray_few : (tray : Tray) → length (tray_items tray) ≤ 64
tray_few tray = tray.few
