use Rattle.std.proofs.Common.{◌∙◌, arith, rules}
use Rattle.script.proofs.Spelling.{read_below, read_more, read_all, not_read}
use Rattle.script.proofs.words.number_of.Goals as goal

pub overflow_mul-n : goal.overflow_mul-n
overflow_mul-n c = let small = read_below _ _ _ 7 c.loop-b.invariant (omega arith) in search rules

pub returns-in_err-n : goal.returns-in_err-n
returns-in_err-n c = c.from_residual.ensures ∙ not_read _ _ _ c.loop-b-test.true c.from.ensures c.in_err-n.ensures.value

pub overflow_add-n : goal.overflow_add-n
overflow_add-n c = let small = read_below _ _ _ 7 c.loop-b.invariant (omega arith) in search rules

pub loop-b-preserved : goal.loop-b-preserved
loop-b-preserved c = read_more _ _ _ _ _ c.loop-b.invariant c.loop-b-test.true c.from.ensures c.in_ok-n.ensures.value

pub returns : goal.returns
returns c = search (rules, read_all _ _ _ c.loop-b.invariant c.loop-b-test.false)
