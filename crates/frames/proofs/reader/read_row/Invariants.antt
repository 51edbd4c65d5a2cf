use Rattle.std.proofs.Common.{◌≡◌, take, None}
use Rattle.frames.specs.Layout.{entries_in}
use Rattle.frames.specs.Reading.{first_of, fault_at}
use Rattle.frames.proofs.reader.read_row.Given as goal

abbrev pub invariant-loop-i : goal.invariant-loop-i
invariant-loop-i g l = record { clear : first_of (fault_at g.K.Kind.means l.bytes l.header.kind) l.i ≡ None; read : take l.i l.slot-items ≡ entries_in l.bytes l.i }
