use Rattle.std.proofs.Common.{refl, arith}
use Rattle.machine.specs.Runs.{Does, restart}
use Rattle.register.specs.Benches.{our_makes}
use Rattle.register.proofs.Benches.{settled}
use Rattle.register.proofs.bench.Bench.restart.Goals as goal

pub returns : goal.returns
returns c =
    let bench = c.args.self.now in
    settled bench c.restart.new.self _ c.restart.new.rows bench.page bench.line c.as_mut_slice.ensures.value (omega arith)
    (λ u v. Does our_makes u (restart c.args.p c.restart.result) v) (c.restart.ensures, refl, refl)
