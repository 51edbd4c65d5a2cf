-- Checks, and what is answered where one does not pass. Assumes nothing.
use Rattle.std.specs.Prelude.{Bool, cond, Some, None, Ok, Err, Option, Result}

-- a check: the fault where it does not pass
abbrev pub demand : {E : Type 0} → Bool → E → Option E
demand passes fault = cond passes None (Some fault)

-- the answer of checks: the fault, or what was asked for
abbrev pub unless : {E X : Type 0} → Option E → X → Result X E
unless (Some fault) x = Err fault
unless None x = Ok x
