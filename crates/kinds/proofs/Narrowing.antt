-- Coordinates narrowed to 16 bits and widened again. Assumes nothing.
use Rattle.std.specs.Prelude.{◌≡◌, ◌^◌, ◌<◌, Bool, true, false, T, if◌then◌else◌, ℤ, Some, None, FitsSigned, refl}
use Rattle.std.proofs.Common.{ap, sym, subst, ◌∙◌, arith, of_z, to_z}
use denote.Floats.{passes}
use Rattle.std.specs.Int.{w16, w32}
use Rattle.std.proofs.Math.Facts.{Fits-of_z}
use Rattle.std.proofs.lemmas.Int.{to_z-of_z}
use Rattle.kinds.specs.Axes.{on_axis}
use Rattle.kinds.specs.Packing.{axis_fits}

-- what 16 bits hold of a number of 32
abbrev pub narrowed : ℤ → ℤ
narrowed z = to_z w16 (of_z w16 (to_z w32 (of_z w32 z)))

-- on the axis that is the number
pub stays : (z : ℤ) → FitsSigned w32 z → true ≡ on_axis (to_z w32 (of_z w32 z)) → (narrowed z ≡ z) × T (on_axis (narrowed z))
stays z f e =
    let wide : to_z w32 (of_z w32 z) ≡ z = to_z-of_z w32 z f in
    let on : T (on_axis z) = passes (on_axis z) (ap on_axis (sym wide) ∙ sym e) in
    let same : narrowed z ≡ z = ap (λ x. to_z w16 (of_z w16 x)) wide ∙ to_z-of_z w16 z (axis_fits z on) in
    (same, subst (λ x. T (on_axis x)) (sym same) on)

-- a coordinate that was taken is the number itself, and on its axis
pub taken : (z x : ℤ) → FitsSigned w32 z → Some x ≡ (if on_axis (to_z w32 (of_z w32 z)) then Some (to_z w32 (of_z w32 z)) else None)
    → (to_z w16 (of_z w16 x) ≡ z) × T (on_axis (to_z w16 (of_z w16 x)))
taken z x f = go (on_axis (to_z w32 (of_z w32 z))) refl
  where
    go : (b : Bool) → b ≡ on_axis (to_z w32 (of_z w32 z)) → Some x ≡ (if b then Some (to_z w32 (of_z w32 z)) else None)
        → (to_z w16 (of_z w16 x) ≡ z) × T (on_axis (to_z w16 (of_z w16 x)))
    go true on e =
        let kept : to_z w32 (of_z w32 z) ≡ x = cc in
        subst (λ y. (to_z w16 (of_z w16 y) ≡ z) × T (on_axis (to_z w16 (of_z w16 y)))) kept (stays z f on)
    go false on e = cc

-- a number of 16 bits is as it was at 32
pub widened : (x z : ℤ) → FitsSigned w16 x → x ≡ z → to_z w32 (of_z w32 (to_z w16 (of_z w16 x))) ≡ z
widened x z f e = ap (λ y. to_z w32 (of_z w32 y)) (to_z-of_z w16 x f) ∙ to_z-of_z w32 x (record { sfits = omega (arith, f.sfits) }) ∙ e

-- its bits make a number below 2 ^ 16
pub bits_below : (z : ℤ) → FitsSigned w16 z → of_z w16 z < 2 ^ 16
bits_below z f = (Fits-of_z f).fits
