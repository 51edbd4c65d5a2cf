use Rattle.std.proofs.Common.{sym}
use Rattle.kinds.specs.ValuesLemmas.{glyph_at_number}
use Rattle.kinds.proofs.glyph.Glyph.at.Goals as goal

pub returns-then-number-le65534 : goal.returns-then-number-le65534
returns-then-number-le65534 c = sym (glyph_at_number c.args.number _)
