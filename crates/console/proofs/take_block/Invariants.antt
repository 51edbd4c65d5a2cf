use Rattle.std.proofs.Common.{◌≡◌, length}
use Rattle.console.proofs.take_block.Given as goal
use Rattle.console.specs.Left.{left}
use Rattle.script.specs.Collected.{collected}

abbrev pub invariant-loop-next : goal.invariant-loop-next
invariant-loop-next g l = left (collected l.lines) l.rest ≡ left (collected l.initial.lines) l.block

abbrev pub decreases-loop-next : goal.decreases-loop-next
decreases-loop-next g l = length l.rest
