use Rattle.std.proofs.Common.{rules}
use Rattle.model.proofs.Masks.{told_all}
use Rattle.model.proofs.sets.all.Goals as goal

pub returns-then-n-lt8-clause-by_members : goal.returns-then-n-lt8-clause-by_members
returns-then-n-lt8-clause-by_members c = told_all _ c.args.n (search rules)

pub returns-else-n-lt8-clause-by_members : goal.returns-else-n-lt8-clause-by_members
returns-else-n-lt8-clause-by_members c = told_all _ c.args.n (search rules)
