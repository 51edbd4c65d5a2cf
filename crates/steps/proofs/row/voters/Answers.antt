use Rattle.std.proofs.Common.{rules}
use Rattle.steps.specs.Rows.{same_ballot, vote_at}
use Rattle.steps.proofs.Marked.{tested}
use Rattle.steps.proofs.row.voters.Goals as goal

pub returns : goal.returns
returns g c =
    tested (λ j. same_ballot (vote_at g.K.Kind.means c.args.row.now.entries j) c.args.b) _ _
    record { asked = λ j lt. let says = c.those.ensures.asked j lt in search rules; no_others = c.those.ensures.no_others }
