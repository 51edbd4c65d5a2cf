use Rattle.std.proofs.Common.{refl}
use Rattle.std.proofs.lemmas.List.{take_rest}
use Rattle.script.proofs.Cutting.{split_found, split_missing}
use Rattle.script.proofs.marks.split_first.Goals as goal

pub returns-in-Some : goal.returns-in-Some
returns-in-Some c = simp take_rest (split_found _ _ _ c.in-Some.ensures)

pub returns-in-None : goal.returns-in-None
returns-in-None c = (refl, split_missing _ _ c.in-None.ensures)
