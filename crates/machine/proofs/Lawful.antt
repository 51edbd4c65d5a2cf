-- The law over all runs of a fresh register. Assumes nothing.
use Rattle.std.proofs.Common.{◌≡◌, ℕ, true, []}
use Rattle.kinds.specs.Meaning.{KindLaws}
use Rattle.posts.specs.Meaning.{PostLaws}
use Rattle.quorums.specs.Meaning.{RuleLaws}
use Rattle.stores.specs.Meaning.{StoreLaws, Fresh}
use Rattle.machine.specs.Board.{Makes, Table}
use Rattle.machine.specs.Law.{Law}
use Rattle.machine.specs.Starts.{fits, Started}
use Rattle.machine.proofs.Agreeing.{tied_start, lawful}
use Rattle.machine.proofs.Deciding.{rounds_decide}
use Rattle.machine.proofs.Stepping.{tied_step}

pub fresh_lawful : {V Q P S : Type 0} (m : Makes V Q P S) → KindLaws m.kind → RuleLaws m.rule → PostLaws m.post → StoreLaws m.store
    → (n cells : ℕ) (rule : Q) (rows : ℕ) (store : S) (post : P) (t : Table Q) → fits m n cells rule rows store ≡ true → Started m n cells rule store t
    → Fresh m.store store → m.post.items post ≡ [] → Law m (record { table = t; store = store; post = post })
fresh_lawful m kinds rules posts stores n cells rule rows store post t fit started fresh empty =
    let tied = tied_start m stores n cells rule rows store post t fit started fresh empty in
    lawful m kinds rules posts stores tied (λ es y round. rounds_decide m kinds rules n cells rule (λ fs e u v known step. (tied_step m kinds posts stores known step).tied) tied {es = es} {y = y} round)
