-- What a tray means: the items of its parcels. Assumes nothing.
use Rattle.std.specs.Prelude.{List, vec_items}
use Rattle.posts.specs.Meaning.{Item}
use Rattle.posts.specs.declared.tray.Tray.{Tray}

abbrev pub tray_items : Tray → List Item
tray_items tray = vec_items tray.parcels
