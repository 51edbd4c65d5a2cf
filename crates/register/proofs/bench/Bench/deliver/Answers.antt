use Rattle.std.proofs.Common.{arith}
use Rattle.machine.specs.Calls.{Delivers}
use Rattle.register.specs.Benches.{our_makes}
use Rattle.register.proofs.Benches.{settled}
use Rattle.register.proofs.bench.Bench.deliver.Goals as goal

pub returns : goal.returns
returns c =
    settled c.args.self.now c.deliver.new.self _ c.deliver.new.rows c.deliver.new.store c.deliver.new.post c.as_mut_slice.ensures.value (omega arith)
    (λ u v. Delivers our_makes u c.args.q c.args.k c.args.buffer.now c.deliver.result v c.deliver.new.buffer) c.deliver.ensures.does
