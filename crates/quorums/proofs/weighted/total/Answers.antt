use Rattle.std.proofs.Common.{◌∙◌}
use Rattle.quorums.proofs.Testing.{weight_of_all}
use Rattle.quorums.proofs.weighted.total.Goals as goal

pub returns : goal.returns
returns c = c.weigh.ensures ∙ weight_of_all _ _ _ c.requires c.all.ensures.by_members
