-- The sorts of a frame, and whom each may go to. Assumes nothing.
use Rattle.std.specs.Prelude.{ℕ, Bool, cond, ◌&&◌, Some, None, Option, ◌==◌, bit_and, count_ones}
use Rattle.model.specs.Sets.{all_but}
use Rattle.frames.specs.declared.sort.Sort.{Sort}
use Rattle.frames.specs.declared.sort.Sort.TheVariants.{Prepare, Accept, Ack}

abbrev pub sort_number : Sort → ℕ
sort_number Prepare = 0
sort_number Accept = 1
sort_number Ack = 2

abbrev pub sort_of : ℕ → Option Sort
sort_of number = cond (number == 0) (Some Prepare) (cond (number == 1) (Some Accept) (cond (number == 2) (Some Ack) None))

-- a prepare and an accept go to all but the sender, an ack to one other
abbrev pub well_addressed : Sort → ℕ → ℕ → ℕ → Bool
well_addressed Prepare n sender to = to == all_but n sender
well_addressed Accept n sender to = to == all_but n sender
well_addressed Ack n sender to = bit_and to (all_but n sender) == to && count_ones to == 1
