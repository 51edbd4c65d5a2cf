-- What parcels and trays hold can be carried. Assumes nothing.
use Rattle.std.specs.Prelude.{◌≡◌, true, List, map}
use Rattle.std.specs.List.{All}
use Rattle.std.proofs.lemmas.List.Elements.{All-map}
use Rattle.std.proofs.Common.{get_or}
use Rattle.posts.specs.Meaning.{Item, sendable}
use Rattle.posts.specs.Parcels.{meant, Carriable}
use Rattle.posts.specs.Trays.{tray_items}
use Rattle.posts.specs.declared.parcel.Parcel.TheInside.{Inside}
use Rattle.posts.specs.declared.tray.Tray.{Tray}

abbrev Carried : Item → Type 0
Carried item = sendable item.frame ≡ true

-- a parcel's fields, with what its type knows of them
abbrev pub Whole : Type 0
Whole = (p : Inside) × Carriable p

pub parcels_sendable : (ps : List Whole) → All (λ item. sendable item.frame ≡ true) (map (λ p. meant p.0) ps)
parcels_sendable ps = All-map Carried (λ (p : Whole). meant p.0) ps (λ k d lt. (get_or ps k d).1)

pub tray_sendable : (tray : Tray) → All (λ item. sendable item.frame ≡ true) (tray_items tray)
tray_sendable tray = tray.carried
