use Rattle.model.specs.Sets.{member}
use Rattle.posts.specs.Shelves.{shelf_items}
use Rattle.posts.specs.Midway.{Stocking}
use Rattle.posts.proofs.shelf.Shelf.fill.Given as goal

abbrev pub invariant-loop-q : goal.invariant-loop-q
invariant-loop-q l = Stocking (shelf_items l.initial.self) l.frame.bytes.now (member l.to) l.q (shelf_items l.self)
