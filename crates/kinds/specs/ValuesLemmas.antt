-- Values and their codes. Assumes nothing.
use Rattle.std.specs.Prelude.{◌≡◌, ℕ, ◌≤◌, Some, nat_le}
use Rattle.std.proofs.Common.{ap, sym, ◌∙◌, leb→le, le-leb, arith}
use Rattle.std.proofs.Math.Bridge.{le_prop}
use denote.Floats.{passes}
use Rattle.model.proofs.Makes.{made_by, made_back}
use Rattle.kinds.specs.declared.glyph.Glyph.{Glyph}
use Rattle.kinds.specs.Glyphs.{glyph_at, glyph_numbers}
use Rattle.kinds.specs.Meaning.{KindLaws}

-- a number up to 65534 is the glyph's that has it, whatever shows the bound
pub glyph_at_number : (c : ℕ) (ok : c ≤ 65534) → glyph_at c ≡ Some (record { number = c; ok = ok })
glyph_at_number c ok = let t = passes (nat_le c 65534) (le-leb c 65534 ok) in
    made_by (nat_le c 65534) _ t ∙ (λ i. Some (record { number = c; ok = le_prop (leb→le c 65534 t) ok i }))

-- and the glyph of a number has that number
pub number_of_glyph_at : (c : ℕ) (g : Glyph) → glyph_at c ≡ Some g → g.number ≡ c
number_of_glyph_at c g e = sym (ap (λ (x : Glyph). x.number) (made_back _ _ g e).1)

pub glyphs_lawful : KindLaws glyph_numbers
glyphs_lawful = record { small = omega arith; fits = λ g. let up = g.ok in omega arith; back = λ g. glyph_at_number g.number g.ok; same = number_of_glyph_at }
