-- What shows no less. Assumes nothing.
use Rattle.std.proofs.Common.{◌≡◌, List, sym, subst, arith}
use Rattle.std.proofs.lemmas.Int.{ints}
use Rattle.machine.specs.Board.{row_at}
use Rattle.machine.specs.Law.{AtMost}
use Rattle.machine.specs.Showing.{ShowsNoLess}
use Rattle.model.specs.declared.entries.Entry.{Entry}
use Rattle.model.specs.declared.rows.Row.{Row}
use Rattle.steps.specs.Rows.{entry_at}

-- an entry is at most itself
pub at_most_itself : (e : Entry) → AtMost e e
at_most_itself e = record { promise = omega (arith, ints); vote = omega (arith, ints) }

-- rows that stand
pub stand : (before after : List Row) → after ≡ before → ShowsNoLess before after
stand before after is place i = subst (λ rows. AtMost (entry_at (row_at before place) i) (entry_at (row_at rows place) i)) (sym is) (at_most_itself (entry_at (row_at before place) i))
