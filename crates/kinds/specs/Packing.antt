-- Coordinates, places and their codes. Assumes nothing.
use Rattle.std.specs.Prelude.{◌≡◌, ℕ, ◌+◌, ◌*◌, ◌/◌, ◌%◌, ◌^◌, ◌<◌, Bool, true, false, cond, ◌&&◌, T, ℤ, pos, negsuc, Some, None, FitsSigned, nat_le, nat_lt, refl}
use Rattle.std.proofs.Common.{ap, sym, ◌∙◌, arith, leb→le, to_z}
use Rattle.std.proofs.Math.Facts.{and_yes, Fits-of_z}
use Rattle.std.specs.Int.{w16}
use Rattle.std.proofs.lemmas.Bool.{cond-true, ltb-true, lt-ltb}
use Rattle.std.proofs.lemmas.Int.{to_z-of_z, of_z-to_z}
use Rattle.model.proofs.Makes.{made_by, made_back}
use Rattle.kinds.specs.declared.place.Place.{Place}
use Rattle.kinds.specs.Axes.{on_axis, on_axes}
use Rattle.kinds.specs.Meaning.{KindLaws}
use Rattle.kinds.specs.Places.{place_at, place_code, place_of_code, master_places}

-- a coordinate fits 16 bits
pub axis_fits : (z : ℤ) → T (on_axis z) → FitsSigned w16 z
axis_fits (pos n) t = record { sfits = omega (arith, leb→le n 16384 t) }
axis_fits (negsuc n) t = record { sfits = omega (arith, leb→le n 16383 (and_yes (nat_le n 16383) true t).0) }

-- a place is made of coordinates on their axes, whatever shows that they are
pub place_made : (x y z x' y' z' : ℤ) → x' ≡ x → y' ≡ y → z' ≡ z → (ok : T (on_axes x' y' z'))
    → Some (record { first = x'; second = y'; third = z'; ok = ok }) ≡ place_at x y z
place_made x y z x' y' z' p q r ok = sym (made_by (on_axes x' y' z') _ ok) ∙ (λ i. place_at (p i) (q i) (r i))

-- the three pieces of a code
pieces : (a b c n : ℕ) → n ≡ a * 2 ^ 32 + b * 2 ^ 16 + c → a < 2 ^ 16 → b < 2 ^ 16 → c < 2 ^ 16
    → (n < 2 ^ 48) × (n / 2 ^ 32 ≡ a) × (n / 2 ^ 16 % 2 ^ 16 ≡ b) × (n % 2 ^ 16 ≡ c)
pieces a b c n e f g h = (omega arith, omega arith, omega arith, omega arith)

-- of a place's code they are its coordinates
place_pieces : (p : Place)
    → (place_code p < 2 ^ 48) × (to_z w16 (place_code p / 2 ^ 32) ≡ p.first) × (to_z w16 (place_code p / 2 ^ 16 % 2 ^ 16) ≡ p.second)
    × (to_z w16 (place_code p % 2 ^ 16) ≡ p.third)
place_pieces p =
    let t = and_yes (on_axis p.first && on_axis p.second) (on_axis p.third) p.ok in
    let u = and_yes (on_axis p.first) (on_axis p.second) t.0 in
    let x = axis_fits p.first u.0 in
    let y = axis_fits p.second u.1 in
    let z = axis_fits p.third t.1 in
    let k = pieces _ _ _ (place_code p) refl ((Fits-of_z x).fits) ((Fits-of_z y).fits) ((Fits-of_z z).fits) in
    (k.0, ap (to_z w16) k.1 ∙ to_z-of_z w16 p.first x, ap (to_z w16) k.2 ∙ to_z-of_z w16 p.second y, ap (to_z w16) k.3 ∙ to_z-of_z w16 p.third z)

code_back : (p : Place) → place_of_code (place_code p) ≡ Some p
code_back p =
    let k = place_pieces p in
    cond-true _ _ _ (lt-ltb (place_code p) (2 ^ 48) k.0) ∙ (λ i. place_at (k.1 i) (k.2 i) (k.3 i)) ∙ made_by (on_axes p.first p.second p.third) _ p.ok

code_same : (c : ℕ) (p : Place) → place_of_code c ≡ Some p → place_code p ≡ c
code_same c p = go (nat_lt c (2 ^ 48)) refl
  where
    go : (b : Bool) → nat_lt c (2 ^ 48) ≡ b → cond b (place_at (to_z w16 (c / 2 ^ 32)) (to_z w16 (c / 2 ^ 16 % 2 ^ 16)) (to_z w16 (c % 2 ^ 16))) None ≡ Some p
        → place_code p ≡ c
    go true l e =
        let small : c < 2 ^ 48 = ltb-true c (2 ^ 48) l in
        sym (ap place_code (made_back _ _ p e).1)
        ∙ omega (arith, of_z-to_z w16 (c / 2 ^ 32) (omega arith), of_z-to_z w16 (c / 2 ^ 16 % 2 ^ 16) (omega arith), of_z-to_z w16 (c % 2 ^ 16) (omega arith))
    go false l e = cc

pub places_lawful : KindLaws master_places
places_lawful = record { small = omega arith; fits = λ p. (place_pieces p).0; back = code_back; same = code_same }
