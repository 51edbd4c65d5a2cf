use Rattle.std.proofs.Common.{sym, ◌∙◌, le-ltb}
use Rattle.model.proofs.Masks.{member-past}
use Rattle.model.proofs.sets.has.Goals as goal

pub returns-else-p-lt8 : goal.returns-else-p-lt8
returns-else-p-lt8 c = le-ltb _ _ c.if-p-lt8.false ∙ sym (member-past c.args.set c.args.p c.ranges.set.fits c.if-p-lt8.false)
