use Rattle.std.proofs.lemmas.Nat.{ones-le}
use Rattle.std.proofs.Common.{rules}
use Rattle.model.proofs.Masks.{told_count}
use Rattle.model.proofs.sets.count.Goals as goal

pub overflow_cast-result : goal.overflow_cast-result
overflow_cast-result c = search (rules, ones-le 8 c.args.set)

pub returns-clause-by_members : goal.returns-clause-by_members
returns-clause-by_members c = told_count c.args.set c.ranges.set.fits
