use Rattle.std.proofs.Common.{rules}
use Rattle.script.proofs.Naming.{command_law}
use Rattle.script.proofs.command.Command.read.Goals as goal

pub returns-clause-law : goal.returns-clause-law
returns-clause-law c = command_law _ _ (search rules)
