use Rattle.model.proofs.Masks.{takes_out, told_all_but}
use Rattle.model.proofs.sets.all_but.Goals as goal

pub overflow_sub-result : goal.overflow_sub-result
overflow_sub-result c = (takes_out _ _ c.args.n c.args.p c.all.ensures.value c.single.ensures.value c.if-p-n.true c.if-p-lt8.true).0

pub returns-then-p-lt8 : goal.returns-then-p-lt8
returns-then-p-lt8 c =
    let is = (takes_out _ _ c.args.n c.args.p c.all.ensures.value c.single.ensures.value c.if-p-n.true c.if-p-lt8.true).1 in
    record { value = is; by_members = told_all_but _ c.args.n c.args.p is }
