use Rattle.std.proofs.Common.{◌≡◌, ◌^◌, ◌<◌, length, sym, ap, ◌∙◌, subst, arith, take_all}
use Rattle.std.specs.Int.Digits.{number_from_digits}
use Rattle.std.proofs.lemmas.Int.Digits.{number_more}
use Rattle.model.proofs.Numbers.{room, one_byte_more}
use Rattle.model.proofs.bytes.number_of.Goals as goal

pub overflow_mul-n : goal.overflow_mul-n
overflow_mul-n c = record { fits = omega (arith, room c.loop-b.n c.loop-b.b-index 0 c.loop-b.invariant.1 (omega arith) (omega arith)) }

pub overflow_add-n : goal.overflow_add-n
overflow_add-n c = record { fits = room c.loop-b.n c.loop-b.b-index _ c.loop-b.invariant.1 (omega arith) (omega arith) }

pub loop-b-preserved : goal.loop-b-preserved
loop-b-preserved c =
    let i = c.loop-b.b-index in (
      rw c.loop-b.invariant.0 (sym (number_more 256 c.args.bytes.now i c.loop-b-test.true)),
      one_byte_more c.loop-b.n i _ c.loop-b.invariant.1 (omega arith),
    )

pub returns : goal.returns
returns c =
    let same : c.loop-b.b-index ≡ length c.args.bytes.now = omega arith in
    record {
      value = c.loop-b.invariant.0 ∙ ap (number_from_digits 256) (take_all _ _ c.loop-b-test.false);
      fits = subst (λ i. c.loop-b.n < 256 ^ i) same c.loop-b.invariant.1;
    }
