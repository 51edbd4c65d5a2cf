use Rattle.model.specs.Sets.{member}
use Rattle.posts.specs.Lines.{line_items}
use Rattle.posts.specs.Midway.{Filling}
use Rattle.posts.proofs.line.Line.fill.Given as goal

abbrev pub invariant-loop-q : goal.invariant-loop-q
invariant-loop-q l = Filling (line_items l.initial.self) l.frame.bytes.now (member l.to) l.q (line_items l.self)
