use Rattle.std.proofs.Common.{take, arith, length-take}
use Rattle.frames.specs.Layout.{heading_of}
use Rattle.model.specs.declared.entries.Entry.{Entry}
use Rattle.frames.proofs.Layouts.{length-laid_out, partly_more, partly_all}
use Rattle.frames.proofs.writer.write.Goals as goal

pub loop-i-preserved : goal.loop-i-preserved
loop-i-preserved c =
    let es = take c.args.header.now.n c.args.row.now.entries in
    partly_more c.write_header.new.out c.loop-i.out c.write_entry.new.out es c.loop-i.i c.place_of.result _ (omega arith) (omega arith) c.place_of.ensures c.loop-i.invariant c.write_entry.ensures

pub returns-clause-whole : goal.returns-clause-whole
returns-clause-whole c = omega (arith, length-laid_out, length-take {A = Entry})

pub returns-clause-buffer : goal.returns-clause-buffer
returns-clause-buffer c =
    partly_all (heading_of c.args.header.now) c.args.out.now c.write_header.new.out c.loop-i.out (take c.args.header.now.n c.args.row.now.entries) c.loop-i.i c.place_of-2.result c.write_header.ensures (omega arith) (omega arith) c.loop-i.invariant
