-- Glyph numbers. Assumes nothing.
use Rattle.std.specs.Prelude.{ℕ, Option, Result, nat_le}
use Rattle.std.proofs.Common.{leb→le}
use Rattle.std.specs.Option.{ok_or}
use Rattle.model.specs.declared.faults.Fault.TheVariants.{OutOfRange}
use Rattle.model.specs.Makers.{made_if}
use Rattle.model.specs.declared.faults.Fault.{Fault}
use Rattle.kinds.specs.Meaning.{KindMeaning}
use Rattle.kinds.specs.declared.glyph.Glyph.{Glyph}

-- a number up to 65534 is a glyph's
abbrev pub glyph_at : ℕ → Option Glyph
glyph_at c = made_if (nat_le c 65534) (λ t. record { number = c; ok = leb→le c 65534 t })

-- any other is refused
abbrev pub made_glyph : ℕ → Result Glyph Fault
made_glyph number = ok_or (glyph_at number) OutOfRange

-- kind 1: a glyph number is its own code
abbrev pub glyph_numbers : KindMeaning Glyph
glyph_numbers = record { number = 1; code = λ g. g.number; value = glyph_at }
