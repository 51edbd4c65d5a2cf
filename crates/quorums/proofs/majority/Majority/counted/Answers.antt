use Rattle.std.proofs.Common.{ap, ◌∙◌, arith}
use lib.Bits.{bit_and}
use lib.Count.{ones}
use Rattle.std.proofs.lemmas.Nat.{and_le_l, ones-le}
use Rattle.model.proofs.Masks.{ones_below}
use Rattle.quorums.specs.Halves.{size_most}
use Rattle.quorums.proofs.majority.Majority.counted.Goals as goal

pub returns : goal.returns
returns c = record {
  value = ap (λ m. ones (bit_and c.args.set m)) c.all.ensures.value ∙ ones_below c.args.set c.args.self.now.n (omega (arith, size_most c.args.self.now.n c.args.self.now.ok));
  upper_bound = ones-le 8 (bit_and c.args.set c.all.result) (omega (arith, and_le_l c.args.set c.all.result));
}
