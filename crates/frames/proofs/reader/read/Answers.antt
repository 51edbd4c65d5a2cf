use Rattle.std.proofs.Common.{◌<◌, rules}
use Rattle.std.proofs.lemmas.List.Elements.{All-from_get_or}
use Rattle.frames.specs.Reading.{first_fault}
use Rattle.frames.proofs.ReadBack.{answered}
use Rattle.frames.proofs.Spelling.{spells}
use Rattle.frames.proofs.reader.read.Goals as goal

pub returns-in_err-header-clause-answered : goal.returns-in_err-header-clause-answered
unfolding first_fault
returns-in_err-header-clause-answered g c = answered _ _ _ _ _ _ (search rules)

pub returns-in_err-row-clause-answered : goal.returns-in_err-row-clause-answered
unfolding first_fault
returns-in_err-row-clause-answered g c = answered _ _ _ _ _ _ (search rules)

pub returns-in_err-check_address-clause-answered : goal.returns-in_err-check_address-clause-answered
unfolding first_fault
returns-in_err-check_address-clause-answered g c = answered _ _ _ _ _ _ (search rules)

pub returns-clause-answered : goal.returns-clause-answered
returns-clause-answered g c =
    let bytes = c.args.bytes.now in
    let small = All-from_get_or (λ d. d < 256) bytes 0 (λ i _. (c.type_inv.bytes i).fits) in
    answered _ _ _ _ _ _ (spells g.K.Kind.means bytes c.args.n c.args.cells c.args.q c.in_ok-header.header c.in_ok-row.row small c.in_ok-header.ensures c.in_ok-row.ensures c.in_ok-check_address.ensures)
