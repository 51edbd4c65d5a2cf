-- The reader's refusals. Assumes nothing.
use Rattle.model.specs.declared.faults.Fault.{Fault}
use Rattle.model.specs.declared.faults.Fault.TheVariants as fault
use Rattle.frames.specs.declared.fault.ReaderFault.{ReaderFault}
use Rattle.frames.specs.declared.fault.ReaderFault.TheVariants.{IllFormed, NotForUs}

-- a reader's fault is passed up whole
abbrev pub passed_up : ReaderFault → Fault
passed_up (IllFormed byte) = fault.IllFormed byte
passed_up (NotForUs byte) = fault.NotForUs byte
