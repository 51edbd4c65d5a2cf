use Rattle.std.proofs.Common.{rules}
use Rattle.steps.specs.Rows.{same_ballot, entry_at}
use Rattle.steps.proofs.Marked.{tested}
use Rattle.steps.proofs.row.promisers.Goals as goal

pub returns : goal.returns
returns c =
    tested (λ j. same_ballot (entry_at c.args.row.now.entries j).promise c.args.b) _ _
    record { asked = λ j lt. let says = c.those.ensures.asked j lt in search rules; no_others = c.those.ensures.no_others }
