use Rattle.std.proofs.Common.{◌≡◌, ◌-◌, length, drop, Some, None, arith, rules}
use Rattle.std.proofs.lemmas.Grind.{common_steps}
use Rattle.std.specs.Option.{MatchOption}
use Rattle.script.proofs.Gathering.{goes_on}
use Rattle.script.proofs.lines.Lines.take_from.Goals as goal

pub returns-clause-goes_on : goal.returns-clause-goes_on
returns-clause-goes_on c =
    let left : c.unwrap_or_default.result.now ≡ drop c.args.from c.args.block.now = grind (arith, common_steps) in
    let next : MatchOption c.take.result (c.map.result ≡ None) (λ x. c.map.result ≡ Some (length c.args.block.now - length x.now)) = search rules in
    goes_on _ _ _ _ _ _ left c.take.ensures.rest next

pub returns-clause-law : goal.returns-clause-law
returns-clause-law c line e =
    let left : c.unwrap_or_default.result.now ≡ drop c.args.from c.args.block.now = grind (arith, common_steps) in
    rw (← left) (c.take.ensures.law line e)
