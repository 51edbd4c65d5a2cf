-- What a parcel means. Assumes nothing.
use Rattle.std.specs.Prelude.{◌≡◌, true}
use Rattle.posts.specs.Meaning.{Item, sendable}
use Rattle.posts.specs.declared.parcel.Parcel.TheInside.{Inside}

abbrev pub meant : Inside → Item
meant p = record { to = p.to; frame = p.frame.items }

-- what every parcel's type knows of its fields: the frame can be carried
abbrev pub Carriable : Inside → Type 0
Carriable p = sendable p.frame.items ≡ true
