-- The entries of the first participants. Assumes nothing.
use Rattle.std.proofs.Common.{◌≡◌, ℕ, ◌<◌, List, length, take, arith}
use Rattle.std.proofs.lemmas.List.{length-take, get_or-take}
use Rattle.model.specs.declared.entries.Entry.{Entry}
use Rattle.steps.specs.Rows.{numbers_at}

pub numbers_front : (k : ℕ) (entries : List Entry) (i : ℕ) → i < length (take k entries) → numbers_at (take k entries) i ≡ numbers_at entries i
numbers_front k entries i within = get_or-take k entries i _ (omega (arith, length-take k entries))
