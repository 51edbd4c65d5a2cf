-- Coordinates on the axes of a font, in units of 1/16384. Assumes nothing.
use Rattle.std.specs.Prelude.{Bool, ◌&&◌, ℤ, pos, negsuc, int_le}

-- from -1 to 1
abbrev pub on_axis : ℤ → Bool
on_axis z = int_le (negsuc 16383) z && int_le z (pos 16384)

abbrev pub on_axes : ℤ → ℤ → ℤ → Bool
on_axes x y z = on_axis x && on_axis y && on_axis z
