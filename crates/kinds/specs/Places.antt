-- Places of masters. Assumes nothing.
use Rattle.std.specs.Prelude.{ℕ, ◌+◌, ◌*◌, ◌/◌, ◌%◌, ◌^◌, cond, ℤ, None, Option, Result, nat_lt}
use Rattle.std.specs.Int.{w16}
use Rattle.std.proofs.Common.{of_z, to_z}
use Rattle.std.specs.Option.{ok_or}
use Rattle.model.specs.declared.faults.Fault.TheVariants.{OutOfRange}
use Rattle.model.specs.Makers.{made_if}
use Rattle.model.specs.declared.faults.Fault.{Fault}
use Rattle.kinds.specs.Axes.{on_axes}
use Rattle.kinds.specs.Meaning.{KindMeaning}
use Rattle.kinds.specs.declared.place.Place.{Place}

-- three coordinates that are each on their axis are a place's
abbrev pub place_at : ℤ → ℤ → ℤ → Option Place
place_at x y z = made_if (on_axes x y z) (λ t. record { first = x; second = y; third = z; ok = t })

-- any others are refused
abbrev pub made_place : ℤ → ℤ → ℤ → Result Place Fault
made_place x y z = ok_or (place_at x y z) OutOfRange

-- 16 bits for each coordinate, in two's complement, the first one highest
abbrev pub place_code : Place → ℕ
place_code p = of_z w16 p.first * 2 ^ 32 + of_z w16 p.second * 2 ^ 16 + of_z w16 p.third

abbrev pub place_of_code : ℕ → Option Place
place_of_code c =
    cond (nat_lt c (2 ^ 48)) (place_at (to_z w16 (c / 2 ^ 32)) (to_z w16 (c / 2 ^ 16 % 2 ^ 16)) (to_z w16 (c % 2 ^ 16))) None

-- kind 2
abbrev pub master_places : KindMeaning Place
master_places = record { number = 2; code = place_code; value = place_of_code }
