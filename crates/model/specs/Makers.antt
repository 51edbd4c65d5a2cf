-- Making a value that has to pass a test. Assumes nothing.
use Rattle.std.specs.Prelude.{Bool, true, false, T, Some, None, Option}

-- what the passed test lets one make, and nothing where it fails
abbrev pub made_if : {X : Type 0} (test : Bool) → (T test → X) → Option X
made_if true make = Some (make tt)
made_if false make = None
