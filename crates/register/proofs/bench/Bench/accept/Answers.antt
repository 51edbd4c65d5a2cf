use Rattle.std.proofs.Common.{◌≡◌, Ok, Err, rules, arith}
use Rattle.std.specs.Result.{MatchResult}
use Rattle.register.proofs.Benches.{accepted}
use Rattle.register.proofs.bench.Bench.accept.Goals as goal

pub returns : goal.returns
returns c =
    let told : MatchResult c.accept.result (λ answer. c.map_err.result ≡ Ok answer) (λ refused. c.map_err.result ≡ Err refused.0) = search rules in
    accepted c.args.self.now c.accept.new.self _ c.accept.new.rows c.accept.new.store c.accept.new.post c.as_mut_slice.ensures.value (omega arith)
    c.args.round c.args.glyph c.accept.result c.map_err.result told c.accept.ensures.does
