use Rattle.std.proofs.Common.{◌∙◌, ap, arith, w32, rules}
use Rattle.std.proofs.lemmas.Int.{to_z-of_z}
use Rattle.std.proofs.lemmas.List.{length-take}
use Rattle.model.specs.Entries.{clean}
use Rattle.steps.specs.Rows.{vote_of}
use Rattle.steps.proofs.Fronts.{numbers_front}
use Rattle.steps.proofs.Leading.{ahead_takes, ahead_keeps, ahead_all}
use Rattle.steps.proofs.row.highest_vote.Goals as goal

pub loop-i-preserved : goal.loop-i-preserved
loop-i-preserved g c =
    let m = g.K.Kind.means in
    let entries = c.args.row.now.entries in
    let i = c.loop-i.i in
    let is =
    to_z-of_z w32 c.counted_vote-vote.result (search rules) ∙ c.counted_vote-vote.ensures
    ∙ ap (λ e. vote_of m (clean e)) (numbers_front c.min.result entries i c.loop-i-test.true) in
    search (rules, ahead_takes, ahead_keeps)

pub returns : goal.returns
returns g c =
    let entries = c.args.row.now.entries in
    ahead_all g.K.Kind.means entries c.loop-i.i _ _ c.loop-i.holder (omega (arith, length-take c.min.result entries)) c.loop-i.invariant
