use Rattle.std.proofs.Common.{rules}
use Rattle.model.specs.Sets.{member}
use Rattle.ledger.proofs.Laws.{settled, shown_agree, shown_onward, cast_handed, latest_at_least}
use Rattle.ledger.proofs.Worked.{worked}
use Rattle.ledger.proofs.settles.Goals as goal

pub returns : goal.returns
returns g c =
    let laws = g.met.Q.QuorumRule.lawful in
    record {
      value = search rules;
      settled = λ yes codes L a b d v w kept votes x least. settled kept laws {s = member c.args.voters} (search rules) votes x least;
      agreed = λ codes L M r s b d v w kept on x y. shown_agree kept laws (shown_onward on x) y;
      handed = λ codes L a b v kept x. cast_handed kept x;
      behind = λ codes L a e kept past. let u = latest_at_least kept past in (u.promise, u.vote);
      worked = worked;
    }
