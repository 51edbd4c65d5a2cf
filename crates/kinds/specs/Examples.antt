-- Worked examples of values and codes. Assumes nothing.
use Rattle.std.specs.Prelude.{◌≡◌, ℤ, pos, negsuc, Ok, Err}
use Rattle.model.specs.declared.faults.Fault.TheVariants.{OutOfRange}
use Rattle.kinds.specs.Glyphs.{made_glyph}
use Rattle.kinds.specs.Places.{made_place, place_code}
use Rattle.kinds.specs.declared.glyph.Glyph.{Glyph}
use Rattle.kinds.specs.declared.place.Place.{Place}

-- 65534 is the last glyph number
abbrev pub GlyphExamples : Type 0
GlyphExamples = ((g : Glyph) × (made_glyph 65534 ≡ Ok g) × (g.number ≡ 65534)) × (made_glyph 65535 ≡ Err OutOfRange)

-- one place at the ends of its axes has this code; no coordinate is -16385
abbrev pub PlaceExamples : Type 0
PlaceExamples =
    ((p : Place) × (made_place (negsuc 16383) (pos 0) (pos 16384) ≡ Ok p) × (place_code p ≡ 0xC00000004000))
    × ((x y : ℤ) → (made_place (negsuc 16384) x y ≡ Err OutOfRange) × (made_place x (negsuc 16384) y ≡ Err OutOfRange) × (made_place x y (negsuc 16384) ≡ Err OutOfRange))
