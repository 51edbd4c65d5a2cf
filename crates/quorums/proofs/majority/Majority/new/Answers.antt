use Rattle.std.proofs.Common.{sym, ap}
use Rattle.std.specs.Option.{ok_or}
use Rattle.model.specs.declared.faults.Fault.TheVariants.{NoRule}
use Rattle.model.proofs.Makes.{made_by}
use Rattle.quorums.specs.Sizes.{is_size}
use Rattle.quorums.proofs.majority.Majority.new.Goals as goal

pub returns-then-contains : goal.returns-then-contains
returns-then-contains c = sym (ap (λ o. ok_or o NoRule) (made_by (is_size c.args.n) _ _))
