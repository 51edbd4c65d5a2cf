-- The kind of value that the tests send. Assumes nothing.
use Rattle.std.specs.Prelude.{Bool, true, false, cond, Some, None, ◌==◌}
use Rattle.kinds.specs.Meaning.{KindMeaning}

-- kind 1: no is 0 and yes is 1
abbrev pub flags : KindMeaning Bool
flags = record { number = 1; code = λ v. cond v 1 0; value = λ c. cond (c == 0) (Some false) (cond (c == 1) (Some true) None) }
