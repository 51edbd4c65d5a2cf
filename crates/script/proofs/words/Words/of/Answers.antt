use Rattle.std.proofs.Common.{rules}
use Rattle.script.proofs.Cutting.{cut_law}
use Rattle.script.proofs.words.Words.of.Goals as goal

pub returns-clause-law : goal.returns-clause-law
returns-clause-law c = search (rules, cut_law)
