-- The worked examples of values and codes. Assumes nothing.
use Rattle.std.proofs.Common.{◌≡◌, false, ◌&&◌, ℤ, negsuc, Err, refl, ap}
use mathlib.Core.Bool.{and-false}
use Rattle.std.specs.Option.{ok_or}
use Rattle.model.specs.declared.faults.Fault.TheVariants.{OutOfRange}
use Rattle.model.proofs.Makes.{made_none}
use Rattle.kinds.specs.Axes.{on_axis, on_axes}
use Rattle.kinds.specs.Examples.{GlyphExamples, PlaceExamples}
use Rattle.kinds.specs.Places.{made_place}

pub glyph_examples : GlyphExamples
glyph_examples = ((_, refl, refl), refl)

-- a place with a coordinate off its axis is refused
pub refused : (x y z : ℤ) → on_axes x y z ≡ false → made_place x y z ≡ Err OutOfRange
refused x y z e = ap (λ o. ok_or o OutOfRange) (made_none (on_axes x y z) _ e)

pub place_examples : PlaceExamples
place_examples = (
  (_, refl, refl),
  λ x y. (
    refl,
    refused x (negsuc 16384) y (ap (λ b. b && on_axis y) (and-false (on_axis x))),
    refused x y (negsuc 16384) (and-false (on_axis x && on_axis y)),
  ),
)
