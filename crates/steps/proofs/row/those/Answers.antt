use Rattle.std.proofs.Common.{ℕ, ◌<◌, refl, arith, rules}
use Rattle.std.specs.Fn.{FnReturnsAt}
use Rattle.std.proofs.lemmas.Fn.{says_at}
use Rattle.std.proofs.lemmas.List.{length-take}
use Rattle.steps.specs.Rows.{numbers_at}
use Rattle.steps.proofs.Fronts.{numbers_front}
use Rattle.steps.proofs.Marked.{marked_with, marked_without}
use Rattle.steps.proofs.row.those.Goals as goal

pub loop-i-preserved : goal.loop-i-preserved
loop-i-preserved g c =
    let entries = c.args.row.now.entries in
    let i = c.loop-i.i in
    let answers = λ (j : ℕ). FnReturnsAt g.F.Fn c.args.passes (numbers_at entries j) in
    let here = numbers_front c.min.result entries i c.loop-i-test.true in
    let within : i < 8 = omega (arith, length-take c.min.result entries) in
    let says = says_at g.F.Fn c.passes.ensures refl in
    let told = rw here at says in
    search (rules, marked_with, marked_without)
