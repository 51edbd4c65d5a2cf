use Rattle.std.proofs.Common.{◌≡◌, take}
use Rattle.frames.proofs.Layouts.{partly}
use Rattle.frames.proofs.writer.write.Given as goal

abbrev pub invariant-loop-i : goal.invariant-loop-i
invariant-loop-i l = l.out ≡ partly l.initial.out (take l.header.n l.row.entries) l.i
