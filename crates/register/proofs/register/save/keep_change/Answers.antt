use Rattle.std.proofs.Common.{◌∙◌, ap}
use mathlib.Core.Bool.{false≢true}
use Rattle.std.proofs.lemmas.Bool.{and_from, eq-eqb}
use Rattle.std.proofs.lemmas.Bool.Decides.{Decides-int_eq}
use Rattle.machine.proofs.Steps.{another_kept}
use Rattle.register.proofs.register.save.keep_change.Goals as goal

pub returns : goal.returns
returns g c =
    let d = c.args.new in
    let e = c.args.old in
    another_kept g.S.Store.means c.args.store.now c.keep.new.store c.args.down.now c.keep.new.down c.args.p c.args.place e d c.keep.result
    (λ same. false≢true (c.if-eq.ensures ∙ and_from _ _ ((Decides-int_eq d.promise e.promise).1 (ap (λ x. x.promise) same))
    (and_from _ _ ((Decides-int_eq d.vote e.vote).1 (ap (λ x. x.vote) same)) (eq-eqb d.code e.code (ap (λ x. x.code) same)))))
    c.keep.ensures
