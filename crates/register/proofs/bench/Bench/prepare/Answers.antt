use Rattle.std.proofs.Common.{◌≡◌, pos, Ok, Err, ap, ◌∙◌, arith, w32, to_z, of_z}
use Rattle.std.proofs.lemmas.Int.{to_z-of_z}
use Rattle.std.proofs.lemmas.Result.{err_from_is_err_and}
use Rattle.register.specs.Benches.{as_ballot}
use Rattle.register.proofs.Benches.{prepared}
use Rattle.register.proofs.bench.Bench.prepare.Goals as goal

pub returns : goal.returns
returns c =
    let z : to_z w32 (of_z w32 c.as_ballot.result) ≡ as_ballot c.args.b = to_z-of_z w32 c.as_ballot.result (record { sfits = c.as_ballot.type_inv }) ∙ c.as_ballot.ensures in
    let done = prepared c.args.self.now c.prepare.new.self _ c.prepare.new.rows c.prepare.new.store c.prepare.new.post c.as_mut_slice.ensures.value (omega arith)
    c.args.p c.args.c c.args.b (to_z w32 (of_z w32 c.as_ballot.result)) (Ok (c.in_ok-round.round, c.in_ok-round.kept)) z c.in_ok-round.ensures.does in
    let same : to_z w32 (of_z w32 c.spend.result) ≡ pos c.args.b = to_z-of_z w32 c.spend.result (record { sfits = c.spend.type_inv }) ∙ c.spend.ensures ∙ ap (λ t. t.b) done.1 in
    (done.0, (λ i. record { p = c.args.p; c = c.args.c; b = same i }), done.2)

pub returns-in_err-round : goal.returns-in_err-round
returns-in_err-round c =
    let z : to_z w32 (of_z w32 c.as_ballot.result) ≡ as_ballot c.args.b = to_z-of_z w32 c.as_ballot.result (record { sfits = c.as_ballot.type_inv }) ∙ c.as_ballot.ensures in
    let out = err_from_is_err_and c.from_residual.result c.from_residual.ensures.1 in
    rw (out.1, out.2) (prepared c.args.self.now c.prepare.new.self _ c.prepare.new.rows c.prepare.new.store c.prepare.new.post c.as_mut_slice.ensures.value (omega arith)
    c.args.p c.args.c c.args.b (to_z w32 (of_z w32 c.as_ballot.result)) (Err c.in_err-round.field-0.0) z c.in_err-round.ensures.does)
