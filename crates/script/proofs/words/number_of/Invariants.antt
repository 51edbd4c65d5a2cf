use Rattle.script.proofs.Spelling.{Read}
use Rattle.script.proofs.words.number_of.Given as goal

abbrev pub invariant-loop-b : goal.invariant-loop-b
invariant-loop-b l = Read l.word l.b-index l.n
