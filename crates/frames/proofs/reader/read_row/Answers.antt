use Rattle.std.proofs.Common.{sym, ap, arith, length-take}
use Rattle.std.proofs.lemmas.Result.{err_from_is_err_and}
use Rattle.model.specs.declared.entries.Entry.{Entry}
use Rattle.frames.specs.Layout.{entry_in}
use Rattle.model.specs.Checks.{unless}
use Rattle.frames.specs.Reading.{row_in, fault_at}
use Rattle.frames.proofs.Readings.{first_of_more, first_of_stops, row_more, row_whole, unless_err, unless_ok}
use Rattle.frames.proofs.reader.read_row.Goals as goal

pub returns-in_err-slot : goal.returns-in_err-slot
returns-in_err-slot g c =
    let bytes = c.args.bytes.now in
    let n = c.args.header.now.n in
    let i = c.loop-i.i in
    let check = fault_at g.K.Kind.means bytes c.args.header.now.kind in
    let p = err_from_is_err_and c.from_residual.result c.from_residual.ensures.1 in
    let here = unless_err (check i) (entry_in bytes i) c.in_err-slot.field-0.0 c.in_err-slot.ensures in
    let few = c.args.header.now.few in
    rw (p.1, p.2) (sym (ap (λ o. unless o (row_in bytes n)) (first_of_stops check i n c.in_err-slot.field-0.0 (omega (arith, length-take {A = Entry})) c.loop-i.invariant.clear here)))

pub loop-i-preserved : goal.loop-i-preserved
loop-i-preserved g c =
    let bytes = c.args.bytes.now in
    let i = c.loop-i.i in
    let check = fault_at g.K.Kind.means bytes c.args.header.now.kind in
    let here = unless_ok (check i) (entry_in bytes i) c.in_ok-slot.field-0 c.in_ok-slot.ensures in
    record { clear = first_of_more check i c.loop-i.invariant.clear here.0; read = row_more bytes c.loop-i.slot-items i c.in_ok-slot.field-0 (omega arith) c.loop-i.invariant.read here.1 }

pub returns : goal.returns
returns g c =
    let n = c.args.header.now.n in
    let few = c.args.header.now.few in
    let check = fault_at g.K.Kind.means c.args.bytes.now c.args.header.now.kind in
    row_whole check c.args.bytes.now c.loop-i.slot-items c.none-entries.result c.loop-i.i n (omega (arith, length-take {A = Entry})) (omega (arith, length-take {A = Entry})) c.none-entries.ensures c.loop-i.invariant.clear c.loop-i.invariant.read
