use Rattle.std.proofs.Common.{◌≡◌, Bool, true, false, length, None, refl, ◌∙◌, subst}
use Rattle.machine.specs.Board.{makes, Table}
use Rattle.model.specs.Checks.{demand}
use Rattle.machine.specs.Starts.{fits, FirstRows, Started}
use Rattle.machine.proofs.Agreeing.{sized}
use Rattle.machine.proofs.Lawful.{fresh_lawful}
use Rattle.machine.proofs.Specimens.{specimens}
use Rattle.machine.proofs.Worked.{worked}
use Rattle.model.specs.declared.faults.Fault.{Fault}
use Rattle.register.proofs.register.Register.set_up.Goals as goal

met : (passes : Bool) (f : Fault) → demand passes f ≡ None → passes ≡ true
met true f e = refl
met false f e = absurd cc

pub returns : goal.returns
returns g c =
    let m = makes g.K.Kind.means g.Q.QuorumRule.means g.P.Post.means g.S.Store.means in
    let n = c.args.n in
    let cells = c.args.cells in
    let rule = c.args.rule in
    let store = c.args.store.now in
    let rows = length c.args.rows.now in
    let size = c.in_ok-size.size in
    let asked = c.in_ok-size.ensures in
    let t : Table g.row.Q.Denot = record { n = size.n; cells = size.cells; rule = rule; down = 0; rows = c.reload_all.new.rows } in
    let fit : fits m n cells rule rows store ≡ true = met (fits m n cells rule rows store) _ asked.0 in
    let long = c.reload_all.ensures.long ∙ (sized m n cells rule rows store fit).rows_are in
    let started : Started m n cells rule store t
    = record {
      table = λ i. record { n = asked.1.0 i; cells = asked.1.1 i; rule = rule; down = 0; rows = t.rows };
      long = long;
      own = subst (λ k. FirstRows m n k store t.rows) asked.1.1 (subst (λ k. FirstRows m k size.cells store t.rows) asked.1.0 c.reload_all.ensures.first);
    } in
    record {
      made = (fit, started);
      worked = (specimens, worked);
      law = λ fresh post empty. fresh_lawful m g.met.K.Kind.lawful g.met.Q.QuorumRule.lawful g.met.P.Post.lawful g.met.S.Store.lawful n cells rule rows store post t fit started fresh empty;
    }

pub returns-in_err-size-clause-worked : goal.returns-in_err-size-clause-worked
returns-in_err-size-clause-worked g c = (specimens, worked)
