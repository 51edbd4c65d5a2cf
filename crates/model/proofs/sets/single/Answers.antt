use Rattle.std.proofs.Common.{rules}
use Rattle.model.proofs.Masks.{told_single}
use Rattle.model.proofs.sets.single.Goals as goal

pub returns-then-p-lt8-clause-by_members : goal.returns-then-p-lt8-clause-by_members
returns-then-p-lt8-clause-by_members c = told_single _ c.args.p (search rules)

pub returns-else-p-lt8-clause-by_members : goal.returns-else-p-lt8-clause-by_members
returns-else-p-lt8-clause-by_members c = told_single _ c.args.p (search rules)
