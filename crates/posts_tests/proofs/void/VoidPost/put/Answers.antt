use Rattle.std.proofs.Common.{refl}
use Rattle.posts.specs.Putting.{puts_nobody}
use Rattle.posts_tests.proofs.void.VoidPost.put.Goals as goal

pub returns : goal.returns
returns c = puts_nobody _ _ _ _ (λ q. refl)
