-- The text of an answer. Assumes nothing.
use Rattle.std.specs.Prelude.{ℕ, List, ◌++◌, codes, decimal}
use Rattle.std.specs.Fmt.{signed_decimal}
use Rattle.model.specs.Faults.{number_of}
use Rattle.answers.specs.declared.Answer.{Answer}
use Rattle.answers.specs.declared.Answer.TheVariants.{Bad, No, NoRound, Done, Kept, Carried, Chosen, Open}

abbrev pub text : Answer → List ℕ
text Bad = codes "bad"
text (No fault) = codes "no " ++ decimal (number_of fault)
text NoRound = codes "no 0"
text Done = codes "ok"
text (Kept kept) = codes "ok " ++ decimal kept
text (Carried value kept) = codes "ok " ++ (decimal value ++ (codes " " ++ decimal kept))
text (Chosen ballot value) = codes "ok " ++ (signed_decimal ballot ++ (codes " " ++ decimal value))
text Open = codes "open"
